-- The rows that each item of a journey writes represent the ledger with it. For the functions that write an item.
use Rattle.std.proofs.Common.{◌≡◌, ℕ, ◌+◌, ◌-◌, ◌==◌, List, [], ◌∷◌, ◌++◌, length, Bool, true, false, eqb-true, Option, Some, None, IsTrue, refl, ap, ◌∙◌, option_map, ◌&&◌, IsPermutation, arith, rules}
use Rattle.std.specs.List.{list_any}
use Rattle.std.proofs.lemmas.Bool.{and_parts}
use Rattle.allotment.specs.declared.cells.Cell.{Cell}
use Rattle.allotment.specs.Want.{Wanted}
use Rattle.plan.specs.PlanModel.{want_at, Planned}
use Rattle.commands.specs.Asks.{Asked}
use Rattle.commands.specs.declared.items.Cursor.{Cursor}
use Rattle.commands.specs.declared.items.Item.{Item}
use Rattle.commands.specs.declared.replies.Reply.{Reply}
use Rattle.commands.specs.declared.items.Item.TheVariants.{Transaction, Compensation, Turn, Save}
use Rattle.commands.specs.declared.items.Cause.{Cause}
use Rattle.ledger.specs.Answer.{State, state_with, kept_for}
use Rattle.ledger.specs.History.{net, is_taken, next_want, may_come}
use Rattle.ledger.specs.Ledger.{Event, Did, Journey, journeys, journey_at, history, held, is_allowed, IsLegal, places_in, fits}
use Rattle.ledger.proofs.Growing.{history-did_same, history-did_other, journeys-did}
use Rattle.ledger.specs.JourneyChanges.{cursor_after}
use Rattle.ledger.proofs.Histories.{follows, may_come-allowed}
use Rattle.ledger.proofs.Items.{cursor_of-more}
use Rattle.ledger.proofs.PlacesMoved.{held-transaction, allotment-did, held-compensation, held_within, held-turn, held-save}
use Rattle.ledger.proofs.Taking.{is_taken-more}
use Rattle.ledger.proofs.Standing.{net-turn, net-save}
use Rattle.saga_core.specs.Views.{cursor_of}
use Rattle.desk_sql.specs.Lists.{changed}
use Rattle.desk_sql.specs.FoundRows.{is_numbered}
use Rattle.desk_sql.specs.Rows.{Tables, StockRow, JourneyRow, StepRow, MarkRow}
use Rattle.desk_sql.specs.Changes.{with_cursor, moves_journey, marks_step, drops_mark, adds_mark}
use Rattle.sql_model.specs.ExpectedRows.{journeys_called, is_standing, steps_called}
use Rattle.sql_model.specs.Standing.{StockStands, MarksStand, StandsFor, IsDesk}
use Rattle.sql_model.specs.Beginning.{with_answer}
use Rattle.sql_model.specs.Moving.{cursor_written, takes_want, with_transaction, gives_want, with_compensation, with_turn, with_save}
use Rattle.sql_model.proofs.Items.{changed-permutation, journeys_called-did, journeys_called-stays, steps-mark, marks-drop, marks-add, standing-transaction, standing-compensation}
use Rattle.sql_model.proofs.Plans.{wanted_nights}
use Rattle.sql_model.proofs.Wants.{stock-taken, stock-given}
use Rattle.sql_model.proofs.EventRows.{HasMoved, with_event, event_stands, stock-stays, marks-stay, steps-stay}

module _ (l : List Event) (j : ℕ) (item : Item) where
  -- what an item leaves unchanged for its own journey's history, it leaves unchanged for all journeys
  histories_same : {Y : Type 0} (f : List Item → Y) → f (history l j ++ item ∷ []) ≡ f (history l j)
      → (k : ℕ) → f (history (l ++ Did j item ∷ []) k) ≡ f (history l k)
  histories_same f same k = go (k == j) refl
    where
      go : (v : Bool) → (k == j) ≡ v → f (history (l ++ Did j item ∷ []) k) ≡ f (history l k)
      go v e = search (rules, arith, eqb-true, history-did_same, history-did_other)

  -- if the same places are held, the rows of stock stay
  held-stays : (rows : List StockRow) → ((x : Cell) → held (l ++ Did j item ∷ []) x ≡ held l x)
      → StockStands l rows → StockStands (l ++ Did j item ∷ []) rows
  held-stays rows same stand =
      stock-stays l (l ++ Did j item ∷ []) rows
      (λ x i. option_map (λ (n : ℕ). record { allot = n; free = n - same x i }) (allotment-did l j item x i)) stand

  -- if the same save-points stand, their rows stay
  taken-stays : (rows : List MarkRow)
      → ((p : ℕ) → is_taken (history l j ++ item ∷ []) p ≡ is_taken (history l j) p)
      → MarksStand l rows → MarksStand (l ++ Did j item ∷ []) rows
  taken-stays rows same stand =
      marks-stay l (l ++ Did j item ∷ []) rows (λ k p. histories_same (λ h. is_taken h p) (same p) k) stand

  -- if the same transactions stand, the rows of steps stay
  net-stays : (rows : List StepRow) → net (history l j ++ item ∷ []) ≡ net (history l j)
      → IsPermutation (steps_called l) rows → IsPermutation (steps_called (l ++ Did j item ∷ [])) rows
  net-stays rows same stand =
      rw (steps-stay l (l ++ Did j item ∷ []) (journeys-did l j item)
      (λ k step option. histories_same (λ h. is_standing h step option)
      (ap (list_any (λ (t : ℕ × ℕ). (t.0 == step) && (t.1 == option))) same) k)) stand

-- the cursor that the desk computes is that of the longer history
pub cursor_next : (l : List Event) (j : ℕ) (a : Journey) (item : Item) → IsLegal l
    → journey_at l j ≡ Some a → IsTrue (is_allowed l (Did j item))
    → cursor_of a.plan (history l j ++ item ∷ []) ≡ cursor_after a.plan (cursor_of a.plan (history l j)) item
cursor_next l j a item legal at may = search (rules, arith, cursor_of-more, follows, may_come-allowed)

-- the row of the journey moves to its new cursor
journeys-move : (l : List Event) (j : ℕ) (item : Item) (rows : List JourneyRow) (a : Journey) → IsLegal l
    → journey_at l j ≡ Some a → IsTrue (is_allowed l (Did j item)) → IsPermutation (journeys_called l) rows
    → IsPermutation (journeys_called (l ++ Did j item ∷ []))
    (changed (is_numbered j) (with_cursor (cursor_written (cursor_after a.plan (cursor_of a.plan (history l j)) item))) rows)
journeys-move l j item rows a legal at may stand =
    search (rules, arith, journeys_called-did, changed-permutation, cursor_next)

-- a save-point may be taken only where none stands that was taken
pub save-new : (plan : Planned) (h : List Item) (may_fit : Bool) (p : ℕ)
    → may_come plan h may_fit (Save p) ≡ true → is_taken h p ≡ false
save-new plan h may_fit p may = search (rules, arith, and_parts)

module _ (t : Tables) (s : State) (ask : Option Asked) (reply : Reply) (j : ℕ) where
  -- the number of the item's event, and how many journeys there are
  abbrev num : ℕ
  num = length s.ledger + 1

  abbrev many : ℕ
  many = length (journeys s.ledger)

  -- the cursor of the journey after the item
  abbrev cursor : Journey → Item → Cursor
  cursor a it = cursor_after a.plan (cursor_of a.plan (history s.ledger j)) it

  -- if the item may come, these tables represent the ledger with it and the reply
  abbrev Stands : Item → Tables → Type 0
  Stands it u =
      IsTrue (is_allowed s.ledger (Did j it)) → kept_for s ask ≡ None
      → StandsFor (with_answer ask reply u) (state_with s ask reply (Some (Did j it)))

  -- they do so if the rows of stock, of journeys, of steps and of save-points are those of the longer ledger
  stands : (it : Item) (u : Tables) → StandsFor t s → kept_for s ask ≡ None → HasMoved (s.ledger ++ Did j it ∷ []) u
      → StandsFor (with_answer ask reply (with_event num many (Did j it) t u)) (state_with s ask reply (Some (Did j it)))
  stands it u st new = event_stands t u s ask reply (Did j it) many st new (ap length (journeys-did s.ledger j it))

  -- a transaction changes the nights of its want, the row of its option and the journey's row, and leaves
  -- the save-points
  pub transaction_stands : (i c : ℕ) (w : Wanted) (a : Journey) → StandsFor t s → IsDesk s → journey_at s.ledger j ≡ Some a
      → want_at a.plan i c ≡ Some w
      → Stands (Transaction i c) (with_transaction num many j w i c (cursor a (Transaction i c)) t)
  transaction_stands i c w a st desk at want may new =
      let l = s.ledger in
      let it : Item = Transaction i c in
      stands it (moves_journey j (cursor_written (cursor a it)) (marks_step j i c 1 (takes_want w t))) st new
      (record {
        stock =
            stock-taken l (l ++ Did j it ∷ []) w t.stock (wanted_nights l j i c a w desk.legal at want) st.stock
            (allotment-did l j it) (λ x. held-transaction l j i c a x at ∙ ap (λ o. held l x + places_in x o) want);
        journey = journeys-move l j it t.journey a desk.legal at may st.journey;
        step = steps-mark l j it i c true (standing-transaction (history l j) i c) t.step st.step;
        mark = taken-stays l j it t.mark (is_taken-more (history l j) it) st.mark;
      })

  -- a compensation changes the nights of its want, the row of its option and the journey's row, and
  -- deletes the save-point of the step
  pub compensation_stands : (i c : ℕ) (w : Wanted) (a : Journey) → StandsFor t s → IsDesk s → journey_at s.ledger j ≡ Some a
      → want_at a.plan i c ≡ Some w
      → Stands (Compensation i c) (with_compensation num many j w i c (cursor a (Compensation i c)) t)
  compensation_stands i c w a st desk at want may new =
      let l = s.ledger in
      let it : Item = Compensation i c in
      stands it (moves_journey j (cursor_written (cursor a it)) (drops_mark j i (marks_step j i c 0 (gives_want w t)))) st new
      (record {
        stock =
            stock-given l (l ++ Did j it ∷ []) w t.stock (wanted_nights l j i c a w desk.legal at want) st.stock
            (allotment-did l j it)
            (λ x. held-compensation l j i c a x desk.legal at may
            ∙ ap (λ o. held (l ++ Did j it ∷ []) x + places_in x o) want)
            (λ x n e. held_within l x n desk.legal e);
        journey = journeys-move l j it t.journey a desk.legal at may st.journey;
        step =
            steps-mark l j it i c false
            (standing-compensation a.plan (history l j) (fits l (next_want a.plan (history l j))) i c
            (follows l desk.legal j a at) (may_come-allowed l j a it at may))
            t.step st.step;
        mark = marks-drop l j it t.mark st.mark i (is_taken-more (history l j) it);
      })

  -- a turn changes the journey's row alone: the same places are held, and the same transactions and
  -- save-points stand
  pub turn_stands : (p : ℕ) (cause : Cause) (a : Journey) → StandsFor t s → IsDesk s → journey_at s.ledger j ≡ Some a
      → Stands (Turn p cause) (with_turn num many j p cause (cursor a (Turn p cause)) t)
  turn_stands p cause a st desk at may new =
      let l = s.ledger in
      let it : Item = Turn p cause in
      stands it (moves_journey j (cursor_written (cursor a it)) t) st new
      (record {
        stock = held-stays l j it t.stock (λ x. held-turn l j p cause a x at) st.stock;
        journey = journeys-move l j it t.journey a desk.legal at may st.journey;
        step = net-stays l j it t.step (net-turn (history l j) p cause) st.step;
        mark = taken-stays l j it t.mark (is_taken-more (history l j) it) st.mark;
      })

  -- a save-point adds its row, and leaves all other rows
  pub save_stands : (p : ℕ) (a : Journey) → StandsFor t s → IsDesk s → journey_at s.ledger j ≡ Some a
      → Stands (Save p) (with_save num many j p t)
  save_stands p a st desk at may new =
      let l = s.ledger in
      let it : Item = Save p in
      stands it (adds_mark j p t) st new
      (record {
        stock = held-stays l j it t.stock (λ x. held-save l j p a x at) st.stock;
        journey = rw (journeys_called-stays l j it a at (cursor_next l j a it desk.legal at may)) st.journey;
        step = net-stays l j it t.step (net-save (history l j) p) st.step;
        mark =
            marks-add l j it t.mark st.mark p
            (save-new a.plan (history l j) (fits l (next_want a.plan (history l j))) p (may_come-allowed l j a it at may))
            (is_taken-more (history l j) it);
      })
