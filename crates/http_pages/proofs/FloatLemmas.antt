-- Bodies contain no floats, so their compact texts are known. For the bodies with lists.
use Rattle.std.proofs.Common.{refl, ◌≡◌, ℕ, false, List, [], ◌∷◌, map}
use Rattle.serde_json.specs.View.{items_of}
use Rattle.serde_json.specs.Written.{has_float, items_have_float, members_have_float}
use Rattle.commands.specs.declared.items.Item.{Item}
use Rattle.commands.specs.declared.items.Phase.{Phase}
use Rattle.commands.specs.declared.items.Phase.TheVariants.{Run}
use Rattle.saga_core.specs.declared.records.Brief.{Brief}
use Rattle.http_pages.specs.declared.bodies.Owners.{Owners}
use Rattle.http_pages.specs.declared.bodies.Owners.TheVariants.{Hidden, Shown}
use Rattle.http_pages.specs.Bodies.{item_data, brief_data}
use Rattle.commands.specs.Objects.{members, standing_members}

-- where a journey is contains no float
no_float-standing : (id pos : ℕ) (phase : Phase) → members_have_float (members (standing_members id pos phase)) ≡ false
no_float-standing id pos Run = refl
no_float-standing id pos _ = refl

-- a list of texts contains no float
pub no_float_items : (history : List Item) → items_have_float (items_of (map item_data history)) ≡ false
no_float_items [] = refl
no_float_items (item ∷ later) = no_float_items later

-- a list of journeys contains no float
pub no_float_briefs : (owners : Owners) (briefs : List Brief)
    → items_have_float (items_of (map (brief_data owners) briefs)) ≡ false
no_float_briefs owners [] = refl
no_float_briefs Hidden (brief ∷ later) =
    rw (no_float-standing brief.id brief.cursor.pos brief.cursor.phase) (no_float_briefs Hidden later)
no_float_briefs Shown (brief ∷ later) =
    rw (no_float-standing brief.id brief.cursor.pos brief.cursor.phase) (no_float_briefs Shown later)

-- a journey of such a list contains no float
pub no_float_brief : (owners : Owners) (brief : Brief) → has_float (brief_data owners brief) ≡ false
no_float_brief Hidden brief = no_float-standing brief.id brief.cursor.pos brief.cursor.phase
no_float_brief Shown brief = no_float-standing brief.id brief.cursor.pos brief.cursor.phase
