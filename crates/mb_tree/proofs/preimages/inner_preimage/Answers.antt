use Rattle.mb_tree.proofs.preimages.inner_preimage.Goals as goal

pub returns-clause-value : goal.returns-clause-value
returns-clause-value g c = c.in_ok-write_inner.ensures.value.writes _ c.new-bytes.ensures.items
