-- The cell is the first of the nights that are read from it on.
use Rattle.std.proofs.Common.{◌≡◌, refl, sym, subst, arith, rules, IfSome}
use Rattle.sql_reads.specs.NightsRead.{AreFew, AreRead, IsAmong, IsLater}
use Rattle.sql_reads.specs.declared.nights_read.NightsRead.{NightsRead}
use Rattle.sql_reads.proofs.ReadLemmas.{also_ok, both_ok, no_read, read_ok}
use Rattle.sql_reads.proofs.nights_read.nights_with.Goals as goal

pub returns-in_default-clause-among : goal.returns-in_default-clause-among
returns-in_default-clause-among g c =
    let x = c.args.cell.now in
    both_ok c.read_nights.result (λ (read : NightsRead). read.first ≡ x) AreFew (λ (read : NightsRead). read.first ≡ x) (λ read. IsAmong read x)
    (λ read first few _.
    let here : IsLater x 0 x = record { kind = refl; supplier = refl; product = refl; night = omega arith } in
    (0, subst (λ y. IsLater y 0 x) (sym first) here, omega (arith, few.0)))
    c.read_nights.ensures.first c.read_nights.ensures.few c.read_nights.ensures.first

-- as many nights are read as belong together
pub returns-in_default-clause-few : goal.returns-in_default-clause-few
returns-in_default-clause-few g c =
    also_ok c.read_nights.result AreFew (λ (read : NightsRead). IfSome c.args.read AreFew → AreFew read) (λ read few _. few) c.read_nights.ensures.few

pub returns-in-Some-clause-read : goal.returns-in-Some-clause-read
returns-in-Some-clause-read g c = read_ok no_read (λ s desk _ were. search rules)

pub returns-in_default-clause-read : goal.returns-in_default-clause-read
returns-in_default-clause-read g c =
    let it = c.read_nights.ensures.read in
    record {
      shows = λ clean s desk keeps.
          also_ok c.read_nights.result (AreRead s) (λ nights. IfSome c.args.read (AreRead s) → AreRead s nights) (λ read are _. are)
          (it.shows clean s desk keeps);
      store = it.store;
      quiet = it.quiet;
    }
