-- A report is written in its parts: its head, its rows, and its ending by the number of what they show. For sending a report.
use Rattle.std.proofs.Common.{◌≡◌, ◌∙◌, ap, subst, List, ◌++◌, ℕ, Option, Result, Ok, Err, IsErrAnd}
use Rattle.std.specs.Io.KnownBytes.{Appends}
use Rattle.saga_core.specs.declared.row_sources.RowSource.{Ghosts}
use Rattle.saga_core.specs.Written.{WroteFront}
use Rattle.saga_core.proofs.ByteLemmas.{appends_more}
use Rattle.reports.specs.Writing.{Sends, WritesCounted}
use Rattle.reports.proofs.FrontLemmas.{front_after, front_before, front_whole}
use Rattle.reports.specs.declared.faults.ReportFault.{ReportFault}
use Rattle.reports.proofs.TakeLemmas.{Goes, goes, is_fault, takes_apart, takes_err, writes_failed}

module _ {T : Type 0} (head : List ℕ) (shown : List T → List ℕ) (ending : ℕ → List ℕ) (number : List T → ℕ) where
  abbrev report : List T → List ℕ
  report rows = head ++ shown rows ++ ending (number rows)

  module _ {R : Type 0} {source : Ghosts R T} {old new : R} {Counted : ℕ → Type 0} {NoneLeft : Type 0} {first : List ℕ} (is_head : first ≡ head) where
    -- a prefix of the head was written
    pub head_cut : {x y : Option (List ℕ)} {V : Type 0} {fault : ReportFault} → Sends x y first {T = V} (Err fault) → Goes source old new
        → (result : Result ℕ ReportFault) → IsErrAnd result (λ told. told ≡ fault)
        → WritesCounted source old new report number Counted NoneLeft x y result
    head_cut {x} {y} {V} {fault} sends takes result is = writes_failed result (is_fault fault result is)
        (takes_apart source fault takes sends.no_store result is) (λ sound all rest.
        front_before x y (head ++ shown all) (ending (number all)) (front_before x y head (shown all) (subst (WroteFront x y) is_head sends.front)))

    -- the head was written, and the rows or a prefix of them
    pub rows_cut : {x y z : Option (List ℕ)} {fault : ReportFault}
        → Appends x y first → WritesCounted source old new shown number Counted NoneLeft y z (Err fault)
        → (result : Result ℕ ReportFault) → IsErrAnd result (λ told. told ≡ fault)
        → WritesCounted source old new report number Counted NoneLeft x z result
    rows_cut {x} {y} {z} {fault} begun wrote result is = writes_failed result (is_fault fault result is) (takes_err source wrote.takes result is) (λ sound all rest.
        front_before x z (head ++ shown all) (ending (number all))
        (front_after x y z head (shown all) (subst (Appends x y) is_head begun) (wrote.wrote sound all rest).front))

    module _ {y z : Option (List ℕ)} {count : ℕ} (wrote : WritesCounted source old new shown number Counted NoneLeft y z (Ok count))
        {last : List ℕ} (is_ending : last ≡ ending count) where
      rows_sent : (x : Option (List ℕ)) → Appends x y first → source.is_sound new → (all : List T) → source.rests old all → Appends x z (head ++ shown all)
      rows_sent x begun sound all rest = appends_more x y z head (shown all) (subst (Appends x y) is_head begun) (wrote.wrote sound all rest).written

      is_last : source.is_sound new → (all : List T) → source.rests old all → last ≡ ending (number all)
      is_last sound all rest = is_ending ∙ ap ending (wrote.wrote sound all rest).number

      module _ {x w : Option (List ℕ)} (begun : Appends x y first) where
        -- the head and the rows were written, and a prefix of the ending
        pub ending_cut : {V : Type 0} {fault : ReportFault} → Sends z w last {T = V} (Err fault)
            → (result : Result ℕ ReportFault) → IsErrAnd result (λ told. told ≡ fault)
            → WritesCounted source old new report number Counted NoneLeft x w result
        ending_cut {V} {fault} sends result is = writes_failed result (is_fault fault result is)
            (takes_apart source fault (goes source wrote.takes) sends.no_store result is)
            (λ sound all rest. front_after x z w (head ++ shown all) (ending (number all)) (rows_sent x begun sound all rest)
            (subst (WroteFront z w) (is_last sound all rest) sends.front))

        -- all parts were written
        pub none_cut : {V : Type 0} {value : V} → Sends z w last (Ok value) → WritesCounted source old new report number Counted NoneLeft x w (Ok count)
        none_cut sends = record {
          wrote = λ sound all rest. (
              let whole = appends_more x z w (head ++ shown all) (ending (number all)) (rows_sent x begun sound all rest)
              (subst (Appends z w) (is_last sound all rest) sends.sent) in
              record { written = whole; number = (wrote.wrote sound all rest).number; front = front_whole x w (report all) whole });
          rest = wrote.rest;
          given = wrote.given;
          takes = wrote.takes;
        }
