use Rattle.owner_session.proofs.OrderLaws.{alternates, keeps_first, steps_first}
use Rattle.owner_session.proofs.DoneLaws.{commits_each}
use Rattle.owner_session.proofs.RequestLaws.{puts_requests, puts_requests_done}
use Rattle.owner_session.proofs.laws.sessions_in_order.Goals as goal

pub returns-clause-alternates : goal.returns-clause-alternates
returns-clause-alternates g c = λ state entries batches input. alternates g.O.SessionOwner.forms state entries batches input

pub returns-clause-keeps_first : goal.returns-clause-keeps_first
returns-clause-keeps_first g c = λ state entries batches input. keeps_first g.O.SessionOwner.forms state entries batches input

pub returns-clause-steps_first : goal.returns-clause-steps_first
returns-clause-steps_first g c = λ state entries batches input. steps_first g.O.SessionOwner.forms state entries batches input

pub returns-clause-commits_each : goal.returns-clause-commits_each
returns-clause-commits_each g c = λ state entries batches input. commits_each g.O.SessionOwner.forms state entries batches input

pub returns-clause-puts_requests : goal.returns-clause-puts_requests
returns-clause-puts_requests g c = λ state entries batches input deeds before after stops.
    puts_requests g.O.SessionOwner.forms state entries batches input deeds before after stops

pub returns-clause-puts_requests_done : goal.returns-clause-puts_requests_done
returns-clause-puts_requests_done g c = λ state entries batches input deeds before after done.
    puts_requests_done g.O.SessionOwner.forms state entries batches input deeds before after done
