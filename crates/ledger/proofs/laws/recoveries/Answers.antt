-- Two recovered ledgers have the same turns, the same compensations and the same steps. One exists, journey by journey,
-- since each step leaves fewer.
use Rattle.ledger.proofs.Recovering.{recovered-unique}
use Rattle.ledger.proofs.UnderWay.{recovered-exists, recovery-goes_on}
use Rattle.ledger.proofs.laws.recoveries.Goals as goal

pub returns : goal.returns
returns c = record {
  unique = recovered-unique;
  exists = recovered-exists;
  under_way = recovery-goes_on;
}
