-- What was sent was told.
use Rattle.desk_jobs.proofs.EndLemmas.{ends_writing}
use Rattle.desk_jobs.proofs.telling.tell_line.Goals as goal

pub returns-in-Ok : goal.returns-in-Ok
returns-in-Ok g c = record {
  tells = λ text is. (let did = c.in-Ok.ensures.sends text is in record { told = did.sent; front = did.front; writing = tt });
}

pub returns-in-Err : goal.returns-in-Err
returns-in-Err g c = record {
  tells = λ text is. (
      let did = c.in-Err.ensures.sends text is in
      record { told = tt; front = did.front; writing = ends_writing c.in-Err.fault c.into.result c.into.ensures did.fault });
}
