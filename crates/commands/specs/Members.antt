-- The members of an object, inserted one after another. For the values that are built so.
use Rattle.std.specs.Prelude.{ℕ, codes}
use Rattle.serde_json.specs.Data.{Members, put, string}
use Rattle.commands.specs.Texts.{phase_word}
use Rattle.commands.specs.declared.items.Phase.{Phase}
use Rattle.commands.specs.declared.items.Phase.TheVariants.{Run, Back, Ended, Undone}
use Rattle.commands.specs.Objects.{whole}

-- members with the position to which a journey goes back, if it does
abbrev pub with_target : Phase → Members → Members
with_target Run ms = ms
with_target (Back target) ms = put (codes "target") (whole target) ms
with_target Ended ms = ms
with_target Undone ms = ms

-- members with where the journey of this number is
abbrev pub with_standing : ℕ → ℕ → Phase → Members → Members
with_standing id pos phase ms =
    with_target phase (put (codes "state") (string (phase_word phase))
    (put (codes "pos") (whole pos) (put (codes "journey") (whole id) ms)))
