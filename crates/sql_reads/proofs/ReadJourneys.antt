-- What the rows of journeys give. For the functions of `sql_reads`.
use Rattle.std.proofs.Common.{◌≡◌, ℕ, ◌≤◌, ◌<◌, List, [], ◌∷◌, map, find, length, Option, Some, None, Bool, true, false, refl, sym, ap, ap₂, subst, ◌∙◌, arith, option_map, nat_cmp, rules}
use Rattle.std.proofs.lemmas.Bool.{and_parts, and_from, ltb-true, lt-ltb}
use Rattle.std.proofs.lemmas.Option.{slice_get_past}
use Rattle.commands.specs.declared.items.Cursor.{Cursor}
use Rattle.saga_core.specs.Views.{first_unfinished, brief_of, brief_of_journey, record_of, record_of_journey, cursor_of, marks_of}
use Rattle.plan.specs.PlanModel.{Planned, step_count}
use Rattle.std.specs.List.{list_any}
use Rattle.std.specs.FinSet as set
use Rattle.sqlite.specs.Tree.{Trees}
use Rattle.desk_sql.specs.declared.versions.Version.{Version}
use Rattle.desk_sql.specs.declared.versions.Version.TheVariants.{One, Two}
use Rattle.desk_sql.specs.Rows.{JourneyRow, Tables, ShowsIn, ShowsMarks}
use Rattle.sql_model.proofs.RecordRows.{marks_told}
use Rattle.saga_core.specs.declared.records.Brief.{Brief}
use Rattle.desk_sql.specs.FoundRows.{journey_of}
use Rattle.desk_sql.specs.declared.journeys.JourneyFound.{JourneyFound}
use Rattle.ledger.specs.Answer.{State}
use Rattle.ledger.specs.History.{is_taken}
use Rattle.ledger.specs.Ledger.{Event, Journey, journeys, journey_at, history}
use Rattle.sql_model.specs.ExpectedRows.{cursor_row}
use Rattle.sql_model.specs.Reading.{Tells, IsBriefOf, IsJourneyOf, cursor_in}
use Rattle.sql_model.proofs.Cursors.{cursor_back}
use Rattle.sql_model.specs.Standing.{StandsIn, is_mark_at}
use Rattle.sql_reads.specs.Reading.{TellsBrief, TellsStand, stand_of, AreMarksAt, AreTakenIn}
use Rattle.sql_reads.specs.declared.reads.Stand.{Stand}

made_brief : ℕ → List ℕ → Cursor → Brief
made_brief id agent cursor = record { id = id; agent = agent; cursor = cursor }

brief_one : (r : JourneyFound) (b c : Brief) → IsBriefOf (journey_of r) c → TellsBrief r b → b ≡ c
unfolding made_brief
brief_one r b c is tells =
    let cursor : Some b.cursor ≡ Some c.cursor = sym tells.cursor ∙ ap cursor_in is.cursor ∙ cursor_back c.cursor in
    let same : b.cursor ≡ c.cursor = cc in
    ap (λ n. made_brief n b.agent b.cursor) (tells.id ∙ is.id) ∙ ap (λ a. made_brief c.id a b.cursor) (tells.agent ∙ is.agent) ∙ ap (made_brief c.id c.agent) same

-- the brief that a row gives is the one in the ledger
pub brief_told : (shown : Option Brief) (r : JourneyFound) (b : Brief) → Tells IsBriefOf (Some (journey_of r)) shown → TellsBrief r b → Some b ≡ shown
brief_told shown r b is tells = search (rules, arith, brief_one)

-- if no row is found, the ledger has no brief
pub none_told : (shown : Option Brief) → Tells IsBriefOf None shown → None ≡ shown
none_told shown is = search (rules, arith)

find_fewer : {X : Type 0} (p q : X → Bool) (xs : List X) → ((x : X) → q x ≡ true → p x ≡ true) → find p xs ≡ None → find q xs ≡ None
find_fewer p q [] fewer none = refl
find_fewer {X} p q (x ∷ xs) fewer none = search (rules, arith, find_fewer p q xs)

-- if no journey above a number is unfinished, none is above a greater number
pub none_above : (l : List Event) (low high : ℕ) → low ≤ high → first_unfinished l low ≡ None → first_unfinished l high ≡ None
none_above l low high above none = search (rules, arith, find_fewer, and_parts, ltb-true, and_from, lt-ltb)

-- no journey has a number above the number of journeys
pub journey_past : (l : List Event) (id : ℕ) → length (journeys l) < id → journey_at l id ≡ None
journey_past l id low = search (rules, arith, slice_get_past)

-- two lists are equal if their elements are, each in `Some`
pub some_one : {X : Type 0} (xs ys : List X) → map Some xs ≡ map Some ys → xs ≡ ys
some_one [] [] e = refl
some_one [] (y ∷ ys) e = cc
some_one (x ∷ xs) [] e = cc
some_one {X} (x ∷ xs) (y ∷ ys) e =
    let both : Some x ∷ map Some xs ≡ Some y ∷ map Some ys = e in
    let head : x ≡ y = cc in
    let tail : map Some xs ≡ map Some ys = cc in
    ap₂ ◌∷◌ head (some_one xs ys tail)

-- a journey that does not exist has no record
pub record_none : (l : List Event) (id : ℕ) → journey_at l id ≡ None → None ≡ record_of l id
record_none l id absent = sym (ap (option_map (record_of_journey (history l id))) absent)

-- the journey of a row
pub record JourneyThere (l : List Event) (id : ℕ) (r : JourneyRow) : Type 0 where
  pub journey : Journey
  pub at : journey_at l id ≡ Some journey
  pub same : r.id ≡ id
  pub is : IsJourneyOf l r journey

pub journey_there : (l : List Event) (id : ℕ) (r : JourneyRow) → Tells (λ (x : JourneyRow) a. (x.id ≡ id) × IsJourneyOf l x a) (Some r) (journey_at l id) → JourneyThere l id r
journey_there l id r = search (rules, arith)

-- the agent, steps, tries and cursor in a row are those of the record
pub stand_shown : (l : List Event) (id : ℕ) (r : JourneyFound) (b : Stand)
    → Tells (λ (x : JourneyRow) a. (x.id ≡ id) × IsJourneyOf l x a) (Some (journey_of r)) (journey_at l id)
    → TellsStand r b → Some b ≡ option_map stand_of (record_of l id)
stand_shown l id r b told tells =
    let there = journey_there l id (journey_of r) told in
    let a = there.journey in
    let cursor : Some b.cursor ≡ Some (cursor_of a.plan (history l r.id)) = sym tells.cursor ∙ ap cursor_in there.is.cursor ∙ cursor_back (cursor_of a.plan (history l r.id)) in
    let same_cursor : b.cursor ≡ cursor_of a.plan (history l id) =
    (let here : b.cursor ≡ cursor_of a.plan (history l r.id) = cc in here ∙ ap (λ n. cursor_of a.plan (history l n)) there.same) in
    ap Some
    (ap (λ x. made x b.steps b.tries b.cursor) (tells.agent ∙ there.is.agent) ∙ ap (λ n. made a.agent n b.tries b.cursor) (tells.steps ∙ there.is.steps)
    ∙ ap (λ n. made a.agent (step_count a.plan) n b.cursor) (tells.tries ∙ there.is.tries)
    ∙ ap (made a.agent (step_count a.plan) a.plan.tries) same_cursor)
    ∙ sym (ap (λ o. option_map stand_of (option_map (record_of_journey (history l id)) o)) there.at)
  where
    made : List ℕ → ℕ → ℕ → Cursor → Stand
    made agent steps tries cursor = record { agent = agent; steps = steps; tries = tries; cursor = cursor }

-- nor a brief
pub brief_none : (l : List Event) (id : ℕ) → journey_at l id ≡ None → None ≡ brief_of l id
brief_none l id absent = sym (ap (option_map (brief_of_journey id (history l id))) absent)

-- the number, agent and cursor in a row are those of the brief
pub brief_shown : (l : List Event) (id : ℕ) (r : JourneyFound) (b : Brief)
    → Tells (λ (x : JourneyRow) a. (x.id ≡ id) × IsJourneyOf l x a) (Some (journey_of r)) (journey_at l id)
    → TellsBrief r b → Some b ≡ brief_of l id
brief_shown l id r b told tells =
    let there = journey_there l id (journey_of r) told in
    brief_told (brief_of l id) r b (rw there.at (record {
      id = there.same;
      agent = there.is.agent;
      cursor = there.is.cursor ∙ ap (λ n. cursor_row (cursor_of there.journey.plan (history l n))) there.same;
    })) tells

-- the journey of a stand is there, with its tries and its steps
pub record HasRow (l : List Event) (id : ℕ) (stand : Stand) : Type 0 where
  pub journey : Journey
  pub at : journey_at l id ≡ Some journey
  pub is : stand ≡ stand_of (record_of_journey (history l id) journey)

pub has_row : (l : List Event) (id : ℕ) (stand : Stand) → Some stand ≡ option_map stand_of (record_of l id) → HasRow l id stand
has_row l id stand = search (rules, arith)

-- the record built of a stand, a plan and save-points is the one in the ledger
pub stand_record : (l : List Event) (id : ℕ) (stand : Stand) (plan : Planned) (marks : set.FinSet nat_cmp)
    → Some stand ≡ option_map stand_of (record_of l id)
    → ((a : Journey) → journey_at l id ≡ Some a → stand.tries ≡ a.plan.tries → plan ≡ a.plan) → marks ≡ marks_of (history l id)
    → Some (record { agent = stand.agent; plan = plan; cursor = stand.cursor; marks = marks }) ≡ record_of l id
stand_record l id stand plan marks has planned marked = search (rules, arith, has_row)

-- nor an agent, steps and a cursor
pub stand_none : (l : List Event) (id : ℕ) → journey_at l id ≡ None → None ≡ option_map stand_of (record_of l id)
stand_none l id absent = ap (option_map stand_of) (record_none l id absent)

-- in tables of version 1 there is no save-point that was taken
pub none_taken : {v : Version} (db : Trees) (t : Tables) (s : State) → v ≡ One → ShowsIn v db t → StandsIn v t s → (id p : ℕ)
    → is_taken (history s.ledger id) p ≡ false
none_taken db t s first shown stands id p =
    let none : t.mark ≡ [] = subst (λ v. ShowsMarks v db t.mark) first shown.mark in
    sym (stands.mark.each id p) ∙ ap (list_any (is_mark_at id p)) none

-- the save-points read of a journey are those that stand, in tables of either version
pub marks_either : (v : Version) (s : State) (id : ℕ) (marks : set.FinSet nat_cmp) → (v ≡ One → (p : ℕ) → is_taken (history s.ledger id) p ≡ false)
    → AreTakenIn v id s marks → AreMarksAt id s marks
marks_either One s id marks unmarked none = marks_told (history s.ledger id) marks (λ p. none.none p ∙ sym (unmarked refl p)) none.low
marks_either Two s id marks unmarked taken = taken
