-- The rows that a load writes represent the ledger with it. For loads.
use Rattle.std.proofs.Common.{◌≡◌, ℕ, ◌+◌, ◌-◌, List, [], ◌∷◌, ◌++◌, length, find, Option, Some, None, IsTrue, refl, sym, ap, ◌∙◌, append-nil, option_map, arith, rules}
use Rattle.sqlite_rules.proofs.ListLemmas.{has_found}
use Rattle.allotment.specs.Cells.{is_cell}
use Rattle.allotment.specs.declared.cells.Cell.{Cell}
use Rattle.allotment.specs.declared.cells.Row.{Row}
use Rattle.commands.specs.Asks.{Asked}
use Rattle.commands.specs.declared.replies.Reply.{Reply}
use Rattle.ledger.specs.Answer.{State, state_with, kept_for}
use Rattle.ledger.specs.History.{is_taken}
use Rattle.ledger.specs.Ledger.{Event, Loaded, journeys, held, allotment, is_allowed}
use Rattle.ledger.proofs.Cells.{is_cell-same}
use Rattle.ledger.specs.JourneyChanges.{newer, places_in_rows}
use Rattle.ledger.proofs.Events.{journeys-loaded, history-loaded}
use Rattle.ledger.proofs.Allotments.{loaded_distinct}
use Rattle.ledger.proofs.PlacesMoved.{held-loaded, allotment-loaded}
use Rattle.saga_core.specs.Views.{places_of}
use Rattle.desk_sql.specs.Rows.{Tables, StockRow}
use Rattle.sql_model.specs.ExpectedRows.{journeys_called, is_standing}
use Rattle.sql_model.specs.Standing.{StockStands, StandsFor}
use Rattle.sql_model.specs.Beginning.{with_answer}
use Rattle.sql_model.proofs.EventRows.{begun-more, event_stands, marks-stay, steps-stay}
use Rattle.sql_model.specs.Loading.{put_rows, puts_rows, with_batch}
use Rattle.sql_model.proofs.Puts.{once-rows, known-rows, places_given, stock_at-rows}

module _ (l : List Event) (name : List ℕ) (rows : List Row) where
  -- the ledger with the batch
  abbrev next : List Event
  next = l ++ Loaded name rows ∷ []

  -- no journey moves
  journeys_called-loaded : journeys_called next ≡ journeys_called l
  journeys_called-loaded = search (rules, arith, begun-more, append-nil, history-loaded)

  -- each cell of the batch has its places; those that are not held are free
  places-loaded : IsTrue (is_allowed l (Loaded name rows)) → (x : Cell)
      → places_given (held l) (find (λ (r : Row). is_cell x r.cell) rows) (places_of l x) ≡ places_of next x
  places-loaded may x =
      go (find (λ (r : Row). is_cell x r.cell) rows) refl
      ∙ ap (λ n. option_map (λ (m : ℕ). record { allot = m; free = m - n })
      (newer (places_in_rows rows x) (allotment l x)))
      (sym (held-loaded l name rows x))
      ∙ ap (option_map (λ (m : ℕ). record { allot = m; free = m - held next x }))
      (sym (allotment-loaded l name rows x (loaded_distinct l name rows may)))
    where
      go : (o : Option Row) → find (λ (r : Row). is_cell x r.cell) rows ≡ o
          → places_given (held l) o (places_of l x)
          ≡ option_map (λ (m : ℕ). record { allot = m; free = m - held l x })
          (newer (option_map (λ (r : Row). r.places) o) (allotment l x))
      go None e = refl
      go (Some r) e =
          ap (λ y. Some (record { allot = r.places; free = r.places - held l y }))
          (sym (is_cell-same x r.cell (has_found (λ (q : Row). is_cell x q.cell) rows r e).1))

  -- the rows of stock are those of the longer ledger
  stock-loaded : IsTrue (is_allowed l (Loaded name rows)) → (cells : List StockRow)
      → StockStands l cells → StockStands next (put_rows (held l) rows cells)
  stock-loaded may cells stand =
      search (rules, arith, stock_at-rows, loaded_distinct, places_given, places-loaded, once-rows, known-rows)

-- a load gives its cells the places of its rows, and adds its own row
pub load_stands : (t : Tables) (s : State) (ask : Option Asked) (reply : Reply) (name : List ℕ) (rows : List Row)
    → StandsFor t s → IsTrue (is_allowed s.ledger (Loaded name rows)) → kept_for s ask ≡ None
    → StandsFor (with_answer ask reply
    (with_batch (length s.ledger + 1) (length (journeys s.ledger)) name rows (held s.ledger) t))
    (state_with s ask reply (Some (Loaded name rows)))
load_stands t s ask reply name rows st may new =
    let l = s.ledger in
    event_stands t (puts_rows (held l) rows t) s ask reply (Loaded name rows) (length (journeys l)) st new
    (ap length (journeys-loaded l name rows))
    (record {
      stock = stock-loaded l name rows may t.stock st.stock;
      journey = rw (journeys_called-loaded l name rows) st.journey;
      step =
          rw (steps-stay l (next l name rows) (journeys-loaded l name rows)
          (λ j step option. ap (λ h. is_standing h step option) (history-loaded l name rows j))) st.step;
      mark = marks-stay l (next l name rows) t.mark (λ j p. ap (λ h. is_taken h p) (history-loaded l name rows j)) st.mark;
    })
