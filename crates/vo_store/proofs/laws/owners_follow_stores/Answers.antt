use Rattle.vo_store.proofs.TableLaws.{entry_taken, owner_accepts, owner_refuses}
use Rattle.vo_store.proofs.laws.owners_follow_stores.Goals as goal

pub returns : goal.returns
returns c = record {
  accepted = λ batches batch version s pending proofs h fits. owner_accepts batches batch s h fits version pending proofs;
  refused = λ batches batch version s index why proofs h fits. owner_refuses batches batch s h fits version index why proofs;
  installed = entry_taken;
}
