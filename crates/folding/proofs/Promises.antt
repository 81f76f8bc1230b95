-- The promises of the places, by their laws. Assumes nothing.
use Rattle.folding.specs.Promises.{PiecesAtPlaces, PlacesWithin, TakenOnce, TakenWhole}
use Rattle.folding.proofs.Places.{places_read, places_within, places_once, places_whole}

pub pieces_at_places : PiecesAtPlaces
pieces_at_places r = places_read r

pub within_ring : PlacesWithin
within_ring r = places_within r

pub taken_once : TakenOnce
taken_once r k = places_once r k

pub taken_whole : TakenWhole
taken_whole r h e = places_whole r h e
