-- A plant with a dispatcher at each server and a lock: both products in one list.
-- Assumes nothing.
use Rattle.claim.specs.Above.{Product, both}
use Rattle.chamber_claim.specs.declared.LockPoints.{LockPoints}
use Rattle.chamber_claim.specs.Lock.{lock_product}
use Rattle.dispatch_claim.specs.Queues.{queue_product}

abbrev pub plant_product : LockPoints → Product
plant_product s = both queue_product (lock_product s)
