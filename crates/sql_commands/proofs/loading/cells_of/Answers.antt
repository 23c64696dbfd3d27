-- One more row is examined: its cell has its places, or it is the first row below what is held.
-- More than 60 lines: a loop and four ways out.
use Rattle.std.proofs.Common.{◌≡◌, ◌+◌, ◌<◌, ◌++◌, ◌∷◌, [], ◌∙◌, Bool, true, if◌then◌else◌, take, length, refl, sym, ap, subst, arith, rules, is_ok, not}
use Rattle.allotment.specs.declared.cells.Cell.{Cell}
use Rattle.ledger.specs.Ledger.{held, is_not_below_held}
use Rattle.sql_reads.specs.NightsRead.{IsAmong, held_at}
use Rattle.sql_reads.proofs.ReadLemmas.{no_read, read_both, read_ok, read_so, then_err}
use Rattle.sql_writes.proofs.RunLemmas.{take-more, take-whole}
use Rattle.sql_commands.specs.Loading.{HavePlaces, LeavesPlaces}
use Rattle.sql_commands.proofs.LoadRows.{first_below, have_more, held_read}
use Rattle.sql_commands.proofs.loading.cells_of.Goals as goal

pub loop-place-init : goal.loop-place-init
loop-place-init g c = rw c.new-cells.ensures.items (read_ok no_read (λ s desk _. (record { above = refl; told = refl }, tt)))

pub loop-place-preserved : goal.loop-place-preserved
loop-place-preserved g c =
    let rows = c.args.rows.now in
    let n = c.loop-place.place in
    let row = c.index-rows-place.result in
    let cells = c.loop-place.cells.items in
    let nights = c.in_ok-nights.nights in
    let p = c.in-Some.places in
    let within : n < length rows = omega (arith, c.loop-place-test.true) in
    let fine : is_ok c.push.result ≡ true = c.is_err.ensures.negation ∙ ap not c.if-is_err.false in
    let pushed : c.push.new.self.items ≡ cells ++ (row.cell, p) ∷ [] =
    c.push.ensures.items ∙ ap (λ (b : Bool). if b then cells ++ (c.cell-cell.result, p) ∷ [] else cells) fine
    ∙ ap (λ (x : Cell). cells ++ (x, p) ∷ []) c.cell-cell.ensures in
    let among : IsAmong nights row.cell = subst (IsAmong nights) c.cell-cell.ensures c.in_ok-nights.ensures.among in
    read_ok (read_both c.loop-place.invariant c.in_ok-nights.ensures.read) (λ s desk both.
    let are = both.1 both.0.1 in
    let holds : c.held.result ≡ held s.ledger row.cell =
    c.held.ensures.held ∙ ap (λ k. held_at k nights.places.items) c.night.ensures
    ∙ ap (λ (x : Cell). held_at x.night nights.places.items) c.cell-cell.ensures
    ∙ held_read s desk nights row.cell are among in
    let gets = subst (λ o. LeavesPlaces row (held s.ledger row.cell) o) c.in-Some.is
    (subst (λ k. LeavesPlaces row k c.places_left-left.result) holds c.places_left-left.ensures.places) in (
      subst (HavePlaces (take (n + 1) rows) s) (sym pushed)
          (subst (λ first. HavePlaces first s (cells ++ (row.cell, p) ∷ [])) (sym (take-more rows n row within c.index-rows-place.is))
          (have_more (take n rows) s cells row p both.0.0 gets)),
      are,
    ))

pub returns-in_default : goal.returns-in_default
returns-in_default g c =
    let n = c.loop-place.place in
    let row = c.index-rows-place.result in
    let nights = c.in_ok-nights.nights in
    let within : n < length c.args.rows.now = omega (arith, c.loop-place-test.true) in
    let among : IsAmong nights row.cell = subst (IsAmong nights) c.cell-cell.ensures c.in_ok-nights.ensures.among in
    read_ok (read_both c.loop-place.invariant c.in_ok-nights.ensures.read) (λ s desk both.
    let holds : c.held.result ≡ held s.ledger row.cell =
    c.held.ensures.held ∙ ap (λ k. held_at k nights.places.items) c.night.ensures
    ∙ ap (λ (x : Cell). held_at x.night nights.places.items) c.cell-cell.ensures
    ∙ held_read s desk nights row.cell (both.1 both.0.1) among in
    let fails = subst (λ o. LeavesPlaces row (held s.ledger row.cell) o) c.in_default.is
    (subst (λ k. LeavesPlaces row k c.places_left-left.result) holds c.places_left-left.ensures.places) in
    (n, refl, first_below (is_not_below_held s.ledger) c.args.rows.now n row within c.index-rows-place.is both.0.0.above fails))

-- the read of one more failed
pub returns-in_err-nights : goal.returns-in_err-nights
returns-in_err-nights g c = then_err (search rules) c.loop-place.invariant c.in_err-nights.ensures.read (λ s desk fits read. tt)

-- out of memory
pub returns-then-is_err : goal.returns-then-is_err
returns-then-is_err g c =
    read_so _ (read_both c.loop-place.invariant c.in_ok-nights.ensures.read) (λ s desk both. tt) (λ s desk spelled _ both. refl)

pub returns : goal.returns
returns g c =
    let last : c.loop-place.place ≡ length c.args.rows.now = omega (arith, c.loop-place.auto.place-end, c.loop-place-test.false) in
    let all = take-whole c.loop-place.place c.args.rows.now last in
    read_ok c.loop-place.invariant (λ s desk both. subst (λ rows. HavePlaces rows s c.loop-place.cells.items) all both.0)
