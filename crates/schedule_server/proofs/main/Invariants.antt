use Rattle.schedule_server.proofs.main.Given as goal

-- the history that was opened is the one that all clients share
abbrev pub ghosts-run_opened : goal.ghosts-run_opened
ghosts-run_opened g a = record { table = a.opened }
