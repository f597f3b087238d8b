use Rattle.vo_wire.proofs.link_serving.serve_link.Given as goal

abbrev pub ghosts-serve_lent : goal.ghosts-serve_lent
ghosts-serve_lent g a = record { name = a.lent.store.ghost_name }
