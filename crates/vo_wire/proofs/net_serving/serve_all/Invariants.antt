use Rattle.vo_wire.proofs.net_serving.serve_all.Given as goal

abbrev pub ghosts-serve_all_lent : goal.ghosts-serve_all_lent
ghosts-serve_all_lent g a = record { name = a.lent.store.ghost_name }
