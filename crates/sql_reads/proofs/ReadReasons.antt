-- The rows of a desk that fits can be read. For the functions of `sql_reads`.
use Rattle.std.proofs.Common.{◌≡◌, ◌≤◌, ◌<◌, inl, inr, ℕ, zero, suc, List, [], ◌∷◌, Option, Some, None, IsTrue, true, false, length, map, refl, sym, ap, subst, ◌∙◌, arith, IsUtf8, IsSome, IfSome, ◌+◌, slice_get, filter_map, rules}
use Rattle.std.specs.List.{AllByRecursion}
use Rattle.std.proofs.lemmas.Bool.{and_parts, ltb-true}
use Rattle.sqlite_rules.specs.Lists.{Has}
use Rattle.sqlite_rules.proofs.ListLemmas.{all_has, has_filtered}
use Rattle.allotment.proofs.ShortLemmas.{is_utf8}
use Rattle.commands.specs.declared.items.Item.{Item}
use Rattle.commands.specs.declared.items.Item.TheVariants.{Transaction, Compensation, Turn, Save}
use Rattle.commands.specs.Names.{is_agent}
use Rattle.commands.proofs.NameLemmas.{agent_is_short}
use Rattle.plan.specs.PlanModel.{numbered}
use Rattle.desk_sql.specs.FoundRows.{is_numbered, is_unfinished_after, FindsJourney, FindsNextItem, FindsUnfinished, is_item_after, item_of, journey_of}
use Rattle.desk_sql.specs.Readable.{HasAgentText, HasMeta, HaveAgentTexts}
use Rattle.desk_sql.specs.Rows.{Tables, EntryRow, JourneyRow}
use Rattle.desk_sql.specs.declared.journeys.JourneyFound.{JourneyFound}
use Rattle.desk_sql.specs.declared.journeys.ItemFound.{ItemFound}
use Rattle.desk_sql.specs.declared.versions.Version.{Version}
use Rattle.desk_sql.proofs.Members.{permutation_from}
use Rattle.ledger.specs.Answer.{State, most_events}
use Rattle.ledger.specs.Ledger.{Event, Loaded, Began, Did, Journey, journeys, journey_at, history}
use Rattle.saga_core.specs.Views.{cursor_of}
use Rattle.sql_model.specs.ExpectedRows.{Begun, begun, begun_of, counted_from, entry_row_if, entry_row_of, meta_in}
use Rattle.sql_model.specs.Reading.{cursor_in}
use Rattle.sql_model.specs.Standing.{StandsIn}
use Rattle.sql_model.specs.Spelling.{IsSpelled}
use Rattle.sql_model.proofs.Cursors.{cursor_back}
use Rattle.sql_model.proofs.JourneyRows.{journey_begins, journey_told, next_above}
use Rattle.sql_reads.specs.Reading.{row_of}

-- the two truths differ
pub false_is_not_true : false ≡ true → ⊥
false_is_not_true is = cc

-- what is told of each row is something
pub all_some : {X Y : Type 0} (f : X → Option Y) (xs : List X) (ys : List Y) → map f xs ≡ map Some ys
    → AllByRecursion (λ x. IsSome (f x)) xs
all_some f [] ys e = tt
all_some f (x ∷ xs) [] e = absurd (cc)
all_some {X} {Y} f (x ∷ xs) (y ∷ ys) e =
    let both : f x ∷ map f xs ≡ Some y ∷ map Some ys = e in
    let head : f x ≡ Some y = cc in
    (subst (λ o. IsSome o) (sym head) refl, all_some f xs ys cc)

-- Rows of journeys.

-- an agent is a text
pub agent_text : (bytes : List ℕ) → IsTrue (is_agent bytes) → IsUtf8 bytes
agent_text bytes good = is_utf8 bytes (and_parts _ _ (agent_is_short bytes good)).1

-- there are no more journeys than events
pub few_journeys : (l : List Event) → length (journeys l) ≤ length l
few_journeys [] = omega arith
few_journeys (Loaded name rows ∷ l) = omega (arith, few_journeys l)
few_journeys (Began agent plan ∷ l) = omega (arith, few_journeys l)
few_journeys (Did journey item ∷ l) = omega (arith, few_journeys l)

-- no journey was begun by an event after the last one
begun_low : (first : ℕ) (l : List Event) (i : ℕ) (b : Begun)
    → slice_get (filter_map (λ (e : ℕ × Event). begun_of e.0 e.1) (counted_from first l)) i ≡ Some b → b.num < first + length l
begun_low first [] i b e = absurd (cc)
begun_low first (Loaded name rows ∷ l) i b e = let low = begun_low (suc first) l i b e in omega (arith, low)
begun_low first (Did journey item ∷ l) i b e = let low = begun_low (suc first) l i b e in omega (arith, low)
begun_low first (Began agent plan ∷ l) zero b e =
    let same : Some (record { num = first; journey = record { agent = agent; plan = plan } }) ≡ Some b = e in
    let is : first ≡ b.num = cc in omega (arith, is)
begun_low first (Began agent plan ∷ l) (suc i) b e = let low = begun_low (suc first) l i b e in omega (arith, low)

pub number_low : (l : List Event) (id : ℕ) (b : Begun) → numbered (begun l) id ≡ Some b → b.num ≤ length l
number_low l zero b e = absurd (cc)
number_low l (suc i) b e = let low = begun_low 1 l i b e in omega (arith, low)

-- nor was an item made by one
entry_low : (first : ℕ) (l : List Event) (r : EntryRow)
    → Has (filter_map (λ (e : ℕ × Event). entry_row_if e.0 e.1) (counted_from first l)) r → r.num < first + length l
entry_low first [] r h = absurd h
entry_low first (Loaded name rows ∷ l) r h = let low = entry_low (suc first) l r h in omega (arith, low)
entry_low first (Began agent plan ∷ l) r h = let low = entry_low (suc first) l r h in omega (arith, low)
entry_low first (Did journey item ∷ l) r (inl is) =
    let number : r.num ≡ first = ap (λ (x : EntryRow). x.num) is ∙ own item in omega (arith, number)
  where
    own : (i : Item) → (entry_row_of first journey i).num ≡ first
    own (Transaction step option) = refl
    own (Compensation step option) = refl
    own (Turn target cause) = refl
    own (Save position) = refl
entry_low first (Did journey item ∷ l) r (inr h) = let low = entry_low (suc first) l r h in omega (arith, low)

-- meta has its row
pub meta_there : {v : Version} (t : Tables) (s : State) → StandsIn v t s → HasMeta t
meta_there {v} t s st = (meta_in v s.ledger, st.meta)

module _ {v : Version} (t : Tables) (s : State) (st : StandsIn v t s) (spelled : IsSpelled s.ledger) where
  good_agent : (id : ℕ) (a : Journey) → journey_at s.ledger id ≡ Some a → IsTrue (is_agent a.agent)
  good_agent id a at = subst (λ o. IfSome o (λ (x : Journey). IsTrue (is_agent x.agent))) at (spelled.agents id)

  -- the agent of each row of a journey has the form of one, and can be read
  pub row_agent : (j : JourneyRow) → Has t.journey j → IsTrue (is_agent j.agent)
  row_agent j has =
      let told = journey_told s.ledger j (permutation_from _ t.journey j st.journey has) in
      subst (λ x. IsTrue (is_agent x)) (sym told.2.agent) (good_agent j.id told.0 told.1)

  row_text : (j : JourneyRow) → Has t.journey j → IsUtf8 j.agent
  row_text j has = agent_text j.agent (row_agent j has)

  pub has_text : (id : ℕ) → HasAgentText id t
  has_text id j has = row_text j (has_filtered (is_numbered id) t.journey j has).0

  pub have_texts : (after : ℕ) → HaveAgentTexts after t
  have_texts after j has = row_text j (has_filtered (is_unfinished_after after) t.journey j has).0

  -- a row that is found tells where its journey is, and has a number of a journey and one of an event
  pub row_cursor : (r : JourneyFound) → Has t.journey (journey_of r) → IsSome (cursor_in (row_of r.cursor))
  row_cursor r has =
      let told = journey_told s.ledger (journey_of r) (permutation_from _ t.journey (journey_of r) st.journey has) in
      rw (ap cursor_in told.2.cursor ∙ cursor_back (cursor_of told.0.plan (history s.ledger r.id))) refl

  -- so the row is that of a journey
  pub row_told : (r : JourneyFound) → Has t.journey (journey_of r)
      → (IsTrue (is_agent (journey_of r).agent) → IsSome (cursor_in (row_of r.cursor)) → false ≡ true) → ⊥
  row_told r has there = false_is_not_true (there (row_agent (journey_of r) has) (row_cursor r has))

  pub row_low : (r : JourneyFound) → Has t.journey (journey_of r) → r.id ≤ most_events
  row_low r has =
      let low = all_has _ t.journey (journey_of r) (next_above s.ledger t.journey st.journey) has in
      omega (arith, low, few_journeys s.ledger, spelled.few)

  pub row_number : (id : ℕ) (r : JourneyFound) → FindsJourney id t (Some r) → r.num ≤ most_events
  row_number id r finds =
      let began = journey_begins s.ledger t.journey id (journey_of r) st.journey finds in
      let is : r.num ≡ began.0.num = began.2 in omega (arith, number_low s.ledger id began.0 began.1, is, spelled.few)

  -- what is found of a number, or above one, is a row
  pub found_there : (id : ℕ) (r : JourneyFound) → FindsJourney id t (Some r) → Has t.journey (journey_of r)
  found_there id r finds = (has_filtered (is_numbered id) t.journey (journey_of r) finds).0

  pub unfinished_there : (after : ℕ) (r : JourneyFound) → FindsUnfinished after t (Some r) → Has t.journey (journey_of r)
  unfinished_there after r finds = (has_filtered (is_unfinished_after after) t.journey (journey_of r) finds.0).0

  pub unfinished_above : (after : ℕ) (r : JourneyFound) → FindsUnfinished after t (Some r) → after < r.id
  unfinished_above after r finds = search (rules, arith, ltb-true, and_parts, has_filtered)

  -- the event of an item that is found is one of the ledger
  pub item_early : (journey after : ℕ) (found : Option ItemFound) → FindsNextItem journey after t found
      → IfSome found (λ (i : ItemFound). i.num ≤ most_events)
  item_early journey after None finds = tt
  item_early journey after (Some i) finds =
      let has = (has_filtered (is_item_after journey after) t.entries (item_of journey i) finds.0).0 in
      let low = entry_low 1 s.ledger (item_of journey i) (permutation_from _ t.entries (item_of journey i) st.entries has) in
      omega (arith, low, spelled.few)
