use Rattle.vo_store.proofs.TableLaws.{checked, checked_at, newest_same, there_at}
use Rattle.vo_store.proofs.laws.answers_are_accepted.Goals as goal

pub returns : goal.returns
returns c = record {
  newest = λ batches s installed least q bytes h there numbers recent. checked batches s h installed least q bytes there numbers recent;
  kept = λ batches s version least q bytes h numbers recent. checked_at batches s h version least q bytes numbers recent;
  there = λ batches s installed version q h there. there_at batches s h installed version q there;
  same = λ batches s installed q h there. newest_same batches s h installed q there;
}
