-- Rows that could not be started: nothing has changed, and the failure has a reason. For the functions of `handing`.
use Rattle.std.proofs.Common.{ℕ, List, [], Result, Ok, Err, OnErr}
use Rattle.sqlite.specs.declared.error.Error.{Error}
use Rattle.sqlite.specs.Order.{Row}
use Rattle.sqlite.specs.Query.{Query}
use Rattle.sqlite.specs.Store.{Ghosts}
use Rattle.sqlite.specs.Held.{Held, state}
use Rattle.sqlite.specs.Given.{IsRefused}
use Rattle.desk_sql.specs.declared.versions.Version.{Version}
use Rattle.desk_sql.specs.declared.versions.Version.TheVariants.{Two}
use Rattle.desk_sql.specs.Lending.{IsNotBegun}
use Rattle.desk_sql.proofs.Meaning.{MeansEach}
use Rattle.desk_sql.proofs.Causing.{IsSure, Takes, query_reason}
use Rattle.desk_sql.proofs.Quieting.{quiet_of}
use Rattle.desk_sql.proofs.Selecting.{fails_quietly}

-- of a query whose sums do not overflow
pub not_begun_sure : {S : Type 0} (g : Ghosts S) {q : Query} (sure : IsSure q) {text : List ℕ} {names : List (List ℕ)}
    (m : MeansEach text q names) {params : Row} (fits : (v : Version) → Takes v text q params) (old new : Held S)
    {V : Type 0} (r : Result V Error)
    → OnErr r (IsRefused g text params old r new) → OnErr r (IsNotBegun g r old new)
not_begun_sure g sure m fits old new (Ok it) refused = tt
not_begun_sure g sure {text = text} m {params = params} fits old new (Err e) refused = record {
  quiet = quiet_of g old new text (m Two []).selects params refused.mode refused.survives
      (λ clean. fails_quietly text (m Two []).selects params (state g old) (state g new) e (refused.err clean));
  reason = λ v clean t sees any up. (
      let of = (sees up.is_open).schema in query_reason sure (m v) (state g old) (state g new) up of (fits v of.extra) e (refused.err clean));
}
