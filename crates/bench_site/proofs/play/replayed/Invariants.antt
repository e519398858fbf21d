use Rattle.bench_site.proofs.play.replayed.Given as goal

abbrev pub ghosts-replies : goal.ghosts-replies
ghosts-replies a = record { name = a.blank.name; parts = a.blank.parts }
