-- The values of a row of a holder: what is shown determines them, and good ones can be read. For `next_found`.
use Rattle.std.proofs.Common.{◌≡◌, inl, inr, List, [], ◌∷◌, Some, eq-eqb, arith}
use Rattle.std.specs.List.{AllByRecursion}
use Rattle.std.proofs.lemmas.Bool.{and_from}
use Rattle.std.proofs.lemmas.Slice.Eq.{bytes_eq-Decides}
use Rattle.saga_core.specs.declared.journey_filters.JourneyState.{JourneyState}
use Rattle.ledger.proofs.Cells.{is_cell-same}
use Rattle.desk_sql.specs.Readable.{Each}
use Rattle.desk_sql.specs.RemainingRows.{Hands}
use Rattle.sql_lists.specs.HoldingLists.{AreHoldingTexts, HoldingRow}
use Rattle.sql_lists.specs.JourneyLists.{state_number}
use Rattle.reports.specs.declared.holdings.Holding.{Holding}
use Rattle.report_writers.specs.HoldingsLeft.{IsGoodHolding, holding_told}
use Rattle.sql_reads.proofs.GoodStock.{code_text}
use Rattle.sql_reads.proofs.ReadReasons.{agent_text}

state_one : (a b : JourneyState) → state_number a ≡ state_number b → a ≡ b
state_one a b e = grind arith

-- what is shown of a holder determines it
pub holding_same : (h k : Holding) → holding_told h ≡ holding_told k → h ≡ k
holding_same h k e = grind (arith, is_cell-same, and_from, eq-eqb, bytes_eq-Decides, state_one)

-- the texts of good rows can be read
pub holdings_text : (rows : List HoldingRow) → AllByRecursion IsGoodHolding rows → Each AreHoldingTexts rows
holdings_text [] good r h = absurd h
holdings_text (x ∷ rows) good r (inr h) = holdings_text rows good.1 r h
holdings_text (x ∷ rows) good r (inl is) = grind (arith, code_text, agent_text)

-- the first of good rows is good
pub holding_good : (Before After : List HoldingRow → Type 0) (r : HoldingRow) → Hands Before After (Some r) → (rows : List HoldingRow)
    → Before rows → AllByRecursion IsGoodHolding rows → IsGoodHolding r
holding_good Before After r hands rows rests good = grind (arith, hands)
