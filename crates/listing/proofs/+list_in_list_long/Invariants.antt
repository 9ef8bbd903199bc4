-- The measures of the cycle of calls {list_in, list_long}: from too little room a call goes on to the largest, and from there to just enough.
use Rattle.std.proofs.Common.{length}
use Rattle.listing.proofs.Texts.{less}
use Rattle.listing.proofs.+list_in_list_long.Given as goal

abbrev pub decreases-list_in : goal.decreases-list_in
decreases-list_in l = less (length l.kit.now) (length l.room.now)

abbrev pub decreases-list_long : goal.decreases-list_long
decreases-list_long l = 20000
