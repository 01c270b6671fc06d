-- `empty_cache` remembers nothing. Assumes nothing.
use Rattle.walk.proofs.Caching.{remember_none}
use Rattle.walk.proofs.cache.empty_cache.Goals as goal

pub returns : goal.returns
returns c = remember_none
