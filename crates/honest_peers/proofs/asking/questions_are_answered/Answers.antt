use Rattle.honest_peers.proofs.AskLaws.{answered, answered_at, nothing_installed, refused}
use Rattle.vo_store.specs.declared.fault.StoreFault.TheVariants.{Empty, NoVersion, TooLarge}
use Rattle.honest_peers.proofs.asking.questions_are_answered.Goals as goal

pub returns : goal.returns
returns c = record {
  result = λ batches s key text at least files q coming bytes queue output honest asked recent e.
      answered s key text at least files q coming queue output asked
      c.answers_are_accepted.ensures.newest c.answers_are_accepted.ensures.kept batches bytes honest
      recent e;
  kept = answered_at c.answers_are_accepted.ensures.newest c.answers_are_accepted.ensures.kept
      c.answers_are_accepted.ensures.there;
  too_large = λ s key text at least size files q coming queue output asked e. refused s key text at
      least files q coming queue output asked (TooLarge size) e;
  empty = λ s key text at least files q coming queue output asked none. refused s key text at least
      files q coming queue output asked Empty (nothing_installed s at q none);
  no_version = λ s key text at least version oldest newest files q coming queue output asked e.
      refused s key text at least files q coming queue output asked
      (NoVersion version oldest newest) e;
}
