use Rattle.shared_counter_tests.proofs.thread_tests.two_clients_are_told_each_number_once.Given as goal

-- the book that was just opened
abbrev pub ghosts-told_to_two : goal.ghosts-told_to_two
ghosts-told_to_two g a = record { table = a.opened }
