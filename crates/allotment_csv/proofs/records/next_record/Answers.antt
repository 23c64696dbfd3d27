use Rattle.allotment_csv.proofs.ReadLemmas.{next_left}
use Rattle.allotment_csv.proofs.records.next_record.Goals as goal

-- what was read is the next of the records that were left
pub returns-clause-next : goal.returns-clause-next
returns-clause-next c =
    next_left c.args.reader.now c.read_byte_record.new.self c.in-Ok.found _ c.requires
    (c.in-Ok.ensures.ready c.requires.untrimmed)
    (c.in-Ok.ensures.reads c.requires.untrimmed c.requires.ready)
