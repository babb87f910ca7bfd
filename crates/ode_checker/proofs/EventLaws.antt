-- Event expressions by one level.
use Rattle.std.proofs.Common.{◌≡◌}
use Rattle.ode_value.specs.declared.event.EventExpr.{EventExpr, out-EventExpr, map-EventExpr, fold_out-EventExpr, the_lemmas}
use Rattle.ode_types.specs.Events.{Listing, listed, listing_of}
use Rattle.ode_types.proofs.TypingLaws.{stops_through}

pub listed_out : (e : EventExpr) → listed e ≡ listing_of (map-EventExpr EventExpr Listing listed (out-EventExpr e))
unfolding listed
listed_out e = fold_out-EventExpr Listing listing_of e

pub ruleset listings = (the_lemmas, listed_out, stops_through)
