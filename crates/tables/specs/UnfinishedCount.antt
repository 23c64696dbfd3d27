-- What a book remembers of how many journeys are unfinished.
use Rattle.std.specs.Prelude.{◌≡◌, ℕ, ◌+◌, if◌then◌else◌, List, length, filter, filter_map, Bool, true, false, Option, IfSome, IsSomeAnd}
use Rattle.commands.specs.declared.replies.Reply.{Reply}
use Rattle.commands.specs.declared.replies.Reply.TheVariants.{Begun, Moved}
use Rattle.ledger.specs.History.{is_finished}
use Rattle.ledger.specs.Ledger.{Event, numbers}
use Rattle.saga_core.specs.Views.{brief_of, is_unfinished_above, unfinished_of}
use Rattle.sql_commands.specs.declared.answering.Answered.{Answered}

-- so many journeys are unfinished, if they were counted
abbrev pub IsCount : List Event → Option ℕ → Type 0
IsCount l count = IfSome count (λ n. n ≡ length (unfinished_of l))

-- how many unfinished journeys have numbers above this one
abbrev pub unfinished_above : List Event → ℕ → ℕ
unfinished_above l after = length (filter (is_unfinished_above after) (filter_map (brief_of l) (numbers l)))

-- after a new reply so many journeys are unfinished, where so many were before: a begin adds one, and a move that finishes
-- its journey takes one
abbrev pub CountsOn : Reply → ℕ → ℕ → Type 0
CountsOn (Begun id) before after = after ≡ before + 1
CountsOn (Moved id item pos phase) before after = after + (if is_finished phase then 1 else 0) ≡ before
CountsOn _ before after = after ≡ before

-- after a reply that is new, or is not, so many journeys are unfinished, where so many were before
abbrev pub IsCountAfter : Bool → Reply → ℕ → ℕ → Type 0
IsCountAfter true reply before after = CountsOn reply before after
IsCountAfter false reply before after = after ≡ before

-- a number that is remembered after an answer follows from one that was remembered before
abbrev pub FollowsCount : Answered → Option ℕ → Option ℕ → Type 0
FollowsCount answered before after =
    IfSome after (λ m. IsSomeAnd before (λ n. IsCountAfter answered.is_new answered.reply n m))
