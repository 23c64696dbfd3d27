-- A journey that who asks sees is one of the ledger. For see_why.
use Rattle.std.proofs.Common.{◌≡◌, ◌∙◌, ap, ℕ, List, if◌then◌else◌, Some, None}
use Rattle.std.proofs.lemmas.Option.{cond_some, option_and_then_some}
use Rattle.ledger.specs.Ledger.{Event}
use Rattle.saga_core.specs.Views.{record_of}
use Rattle.saga_core.specs.declared.records.Record.{Record}
use Rattle.desk_http.specs.Pages.{own_journey, sees}
use Rattle.desk_http.specs.declared.doors.Asker.{Asker}

pub own_found : (l : List Event) (asker : Asker) (id : ℕ) (r : Record) → own_journey l asker id ≡ Some r → record_of l id ≡ Some r
own_found l asker id r is =
    option_and_then_some (λ (q : Record). if sees asker q.agent then Some q else None) (record_of l id) r is
    (λ q at kept. at ∙ ap Some (cond_some (sees asker q.agent) q r kept).1)
