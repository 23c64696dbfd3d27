-- A task was done over its file; nothing is left of files where there was none.
use Rattle.std.proofs.Common.{refl}
use Rattle.cli.proofs.doing.do_action.Goals as goal

pub returns-in-Do-clause-did : goal.returns-in-Do-clause-did
returns-in-Do-clause-did g c = rw c.in-Do.is c.do_over_file-ended.ensures.did

pub returns-in-Do-clause-ran : goal.returns-in-Do-clause-ran
returns-in-Do-clause-ran g c = rw c.in-Do.is c.do_over_file-ended.ensures.ran

pub returns-in-Ask-clause-did : goal.returns-in-Ask-clause-did
returns-in-Ask-clause-did g c =
    let asked = c.ask.ensures in
    rw c.in-Ask.is (record { job = asked.job; only = record { unread = refl; unnoted = refl }; untold = asked.untold })

pub returns-in-Ask-clause-ran : goal.returns-in-Ask-clause-ran
returns-in-Ask-clause-ran g c = rw c.in-Ask.is refl
