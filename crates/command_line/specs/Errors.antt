-- The texts of errors that `clap` does not find.
use Rattle.std.specs.Prelude.{ℕ, ◌++◌, codes, decimal}
use Rattle.clap.specs.Words.{Text}

-- how each of them ends
abbrev pub for_more : Text
for_more = codes "\n\nFor more information, try '--help'.\n"

-- a value that is not what is allowed
abbrev pub value_error : (word option allowed : Text) → Text
value_error word option allowed =
    codes "error: invalid value '" ++ (word ++ (codes "' for '" ++ (option ++ (codes "': not " ++ (allowed ++ for_more)))))

-- an option beside a value with which it cannot be used
abbrev pub option_error : (option value : Text) → Text
option_error option value =
    codes "error: the argument '" ++ (option ++ (codes "' cannot be used with '" ++ (value ++ (codes "'" ++ for_more))))

-- an option with the name of its value: `--port <PORT>`
abbrev pub with_name : (option name : Text) → Text
with_name option name = option ++ (codes " <" ++ (name ++ codes ">"))

-- what is allowed of a number
abbrev pub up_to : ℕ → Text
up_to most = codes "a number from 1 to " ++ decimal most
