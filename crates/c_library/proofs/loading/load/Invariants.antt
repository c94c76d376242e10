use Rattle.c_library.proofs.loading.load.Given as goal

abbrev pub ghosts-load_over : goal.ghosts-load_over
ghosts-load_over a = record { image = a.image.now }
