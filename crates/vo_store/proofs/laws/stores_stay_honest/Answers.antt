use Rattle.vo_store.proofs.HonestLaws.{new_honest}
use Rattle.vo_store.proofs.TableLaws.{first_installed, installed, proposed, refused, stand}
use Rattle.vo_store.proofs.laws.stores_stay_honest.Goals as goal

pub returns : goal.returns
returns c = record {
  new = new_honest;
  stand = stand;
  proposed = λ batches batch s next proofs h fits. proposed batches batch s h fits next proofs;
  refused = λ batches batch s index why proofs h fits. refused batches batch s h fits index why proofs;
  first = first_installed;
  installed = λ batches batch s pending next proofs rec signature h fits. installed batches batch s h fits pending next proofs rec signature;
}
