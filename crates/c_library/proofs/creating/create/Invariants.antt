use Rattle.c_library.proofs.creating.create.Given as goal

abbrev pub ghosts-create_over : goal.ghosts-create_over
ghosts-create_over a = record { image = a.image.now }
