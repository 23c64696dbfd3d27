-- The summaries of the journeys that are kept are those that the ledger shows. For the lists and counts of `MemBook`.
use Rattle.std.proofs.Common.{◌≡◌, ℕ, suc, ◌+◌, List, [], ◌∷◌, length, map, refl, ap, sym, ◌∙◌, arith, not, slice_get, filter, filter_map, Some}
use Rattle.std.specs.List.{cons_option}
use Rattle.allotment.specs.Cells.{numbers_from}
use Rattle.ledger.specs.Answer.{State}
use Rattle.ledger.specs.History.{is_finished}
use Rattle.ledger.specs.Ledger.{Event}
use Rattle.saga_core.specs.Views.{brief_of, counts_of, is_unfinished_above, unfinished_of}
use Rattle.memory_book.specs.Memory.{brief_kept, IsKept, StandsFor}
use Rattle.saga_core.specs.declared.records.Brief.{Brief}
use Rattle.saga_core.specs.declared.records.Counts.{Counts}
use Rattle.memory_book.specs.declared.journeys.Journey.{Journey}
use Rattle.memory_book.specs.declared.mem_book.MemBook.{MemBook}
use Rattle.memory_book.proofs.BeginLemmas.{length-begun}
use Rattle.memory_book.proofs.StandLemmas.{brief_of-kept, is_kept}
use Rattle.saga_core.proofs.BriefLemmas.{all_above, briefs_of, rises}

-- the ledger shows the summaries of these journeys, numbered from the first on
briefs-each : (l : List Event) (ks : List Journey) (first : ℕ)
    → ((i : ℕ) (k : Journey) → slice_get ks i ≡ Some k → (j : ℕ) → j ≡ first + i → IsKept l j k)
    → map brief_kept ks ≡ filter_map (brief_of l) (numbers_from first (length ks))
briefs-each l [] first each = refl
briefs-each l (k ∷ ks) first each =
    let later = briefs-each l ks (suc first) (λ i x at j e. each (suc i) x at j (omega arith)) in
    λ i. cons_option (sym (brief_of-kept l first k (each 0 k refl first (omega arith))) i) (later i)

-- the summaries of the journeys that are kept are those that the ledger shows
pub briefs-kept : (m : MemBook) (s : State) → StandsFor m s → map brief_kept m.journeys.items ≡ briefs_of s.ledger
briefs-kept m s here =
    briefs-each s.ledger m.journeys.items 1 (λ i k at j e. is_kept m s here i k at j (omega arith))
    ∙ ap (λ n. filter_map (brief_of s.ledger) (numbers_from 1 n)) (length-begun m s here)

-- the unfinished journeys are among them
pub unfinished-kept : (m : MemBook) (s : State) → StandsFor m s
    → filter (is_unfinished_above 0) (map brief_kept m.journeys.items) ≡ unfinished_of s.ledger
unfinished-kept m s here =
    ap (filter (is_unfinished_above 0)) (briefs-kept m s here)
    ∙ all_above (λ (b : Brief). not (is_finished b.cursor.phase)) 0 (briefs_of s.ledger) (rises s.ledger)

-- the numbers that are kept are those of the ledger
pub counts-kept : (m : MemBook) (s : State) (counts : Counts) → StandsFor m s → counts.events ≡ m.events
    → counts.journeys ≡ length m.journeys.items
    → counts.unfinished ≡ length (filter (is_unfinished_above 0) (map brief_kept m.journeys.items))
    → counts ≡ counts_of s.ledger
counts-kept m s counts here events journeys_are unfinished = λ i. record {
  events = (events ∙ here.events) i;
  journeys = (journeys_are ∙ length-begun m s here) i;
  unfinished = (unfinished ∙ ap length (unfinished-kept m s here)) i;
}
