-- `ring::undecided_starts` meets its contract: the filter is asked once for the forward starts, and once for the backward ones.
use Rattle.ring.proofs.Filtering.{decides}
use Rattle.ring.proofs.undecided_starts.Goals as goal

pub returns : goal.returns
returns c = decides _ _ _ _ _ c.unpacked-entries.ensures c.forward_words.ensures c.backward_words.ensures c.undecided.ensures c.undecided-2.ensures
