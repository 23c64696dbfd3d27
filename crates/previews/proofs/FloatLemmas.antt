-- The object of a preview contains no floats, so its compact text is known; and its lines, as a format writes them. For the texts of a preview.
use Rattle.std.proofs.Common.{refl, ◌≡◌, ℕ, false, List, [], ◌∷◌, ◌++◌, append_assoc, codes, map, Option, Some, None, arith}
use Rattle.serde_json.specs.View.{items_of}
use Rattle.serde_json.specs.Written.{has_float, items_have_float, members_have_float}
use Rattle.commands.specs.declared.items.Phase.{Phase}
use Rattle.commands.specs.Objects.{Named, members, target_member}
use Rattle.reports.specs.Columns.{line}
use Rattle.previews.specs.Layouts.{free_data, want_member, why_data}
use Rattle.previews.specs.declared.nights.FreeNight.{FreeNight}
use Rattle.previews.specs.declared.steps.NextStep.{NextStep}
use Rattle.previews.specs.declared.steps.Preview.{Preview}

-- a list of nights contains no float
no_float-nights : (nights : List FreeNight)
    → items_have_float (items_of (map (λ (n : FreeNight). free_data n.night n.free) nights)) ≡ false
no_float-nights [] = refl
no_float-nights (n ∷ later) = grind (arith, no_float-nights later)

-- nor do the members after the nights
no_float-last : (phase : Phase) (next : Option NextStep) → members_have_float (members (target_member phase ++ want_member next)) ≡ false
no_float-last phase next = grind arith

-- nor does the object
pub no_float_in_why : (o : Preview) (nights : List FreeNight) → has_float (why_data o nights) ≡ false
no_float_in_why o nights = go o.next (no_float-last o.brief.cursor.phase o.next)
  where
    later : Option NextStep → List Named
    later next = target_member o.brief.cursor.phase ++ want_member next

    go : (next : Option NextStep) → members_have_float (members (later next)) ≡ false
        → has_float (why_data (record o { next = next }) nights) ≡ false
    go None last = rw (no_float-nights nights) last
    go (Some next) last = rw (no_float-nights nights) last

-- the lines of a journey in their parts, and the line of its next step
pub brief_parts : (id agent state : List ℕ) → codes "journey " ++ (id ++ (codes " agent " ++ (agent ++ (codes "\nstate " ++ (state ++ 10 ∷ [])))))
    ≡ line (codes "journey" ∷ id ∷ codes "agent" ∷ agent ∷ []) ++ line (codes "state" ∷ state ∷ [])
brief_parts id agent state = simp append_assoc

pub next_parts : (item want : List ℕ) → codes "next " ++ (item ++ (32 ∷ (want ++ 10 ∷ []))) ≡ line (codes "next" ∷ item ∷ want ∷ [])
next_parts item want = simp append_assoc
