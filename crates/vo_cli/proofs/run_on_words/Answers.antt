use Rattle.vo_cli.proofs.run_on_words.Goals as goal

pub returns-in-Ok-clause-lines : goal.returns-in-Ok-clause-lines
returns-in-Ok-clause-lines g c = rw c.in-Ok.is (rw c.deref.ensures.value at c.run.ensures.lines)

pub returns-in-Ok-clause-serves : goal.returns-in-Ok-clause-serves
returns-in-Ok-clause-serves g c = rw c.in-Ok.is (rw c.deref.ensures.value at c.run.ensures.serves)

pub returns-in-Ok-clause-owns : goal.returns-in-Ok-clause-owns
returns-in-Ok-clause-owns g c = rw c.in-Ok.is (rw c.deref.ensures.value at c.run.ensures.owns)
