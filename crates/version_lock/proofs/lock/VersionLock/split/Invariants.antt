use Rattle.version_lock.proofs.lock.VersionLock.split.Given as goal

abbrev pub ghosts-give : goal.ghosts-give
ghosts-give g a = record { count = a.count }
