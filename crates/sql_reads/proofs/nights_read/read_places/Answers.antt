-- The nights in the rows are those of the product.
use Rattle.std.proofs.Common.{◌+◌, ◌-◌, ◌∙◌, rules}
use Rattle.saga_core.specs.Views.{ShowsCells}
use Rattle.desk_sql.specs.declared.stock.NightRange.{NightRange}
use Rattle.sql_model.specs.Reading.{IsRangeOf}
use Rattle.sql_model.proofs.Readings.{nights_read}
use Rattle.sql_reads.specs.NightsRead.{nights_from}
use Rattle.sql_reads.specs.Reading.{TellNights}
use Rattle.sql_reads.proofs.ReadLemmas.{also_ok, found_rows, query_fails, read_so}
use Rattle.sql_reads.proofs.GoodStock.{good_nights}
use Rattle.sql_reads.proofs.nights_read.read_places.Goals as goal

-- each row tells a night of the product, with its places
pub returns-in-Ok : goal.returns-in-Ok
returns-in-Ok g c =
    let rows = c.in-Ok.found.items in
    let want = nights_from c.args.first.now c.args.count in
    let last = c.from-from.result + c.from-2.result - 1 in
    let range : NightRange = record { kind = c.from.result; supplier = c.as_str.result; product = c.as_str-2.result; first = c.from-from.result; last = last } in
    let is : IsRangeOf range want = record {
      kind = search rules;
      supplier = search rules;
      product = search rules;
      first = search rules;
      last = search rules;
    } in
    read_so c.nights_told.result (found_rows c.in-Ok.ensures.queries)
    (λ s desk at.
    also_ok c.nights_told.result (λ nights. TellNights rows nights.items) (λ nights. ShowsCells want s nights.items)
    (λ nights tell. tell ∙ nights_read at.tables s at.stands desk range want rows is c.requires at.found) (search rules))
    (λ s desk spelled _ at.
    (simp c.as_slice.ensures.value at c.nights_told.ensures.there)
    (good_nights s.ledger desk.legal want rows (nights_read at.tables s at.stands desk range want rows is c.requires at.found)))

pub returns-in-Err : goal.returns-in-Err
returns-in-Err g c = query_fails c.in-Err.ensures.queries c.fault_of.ensures.memory (λ t s st desk spelled _. tt)
