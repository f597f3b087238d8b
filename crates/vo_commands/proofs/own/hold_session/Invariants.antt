use Rattle.vo_commands.proofs.own.hold_session.Given as goal

abbrev pub ghosts-hold_session_on_lent_disk : goal.ghosts-hold_session_on_lent_disk
ghosts-hold_session_on_lent_disk g a = record { name = a.lent.disk.ghost_name }
