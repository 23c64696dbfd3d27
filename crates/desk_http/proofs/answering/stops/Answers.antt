-- A request stops the desk at the administrator's socket alone.
use Rattle.std.proofs.Common.{refl}
use Rattle.desk_http.proofs.answering.stops.Goals as goal

-- nobody stops it at the port
pub returns-in-Port : goal.returns-in-Port
returns-in-Port c = record { stops = λ m is. rw c.in-Port.is refl }

-- the house stops it at its own door
pub returns-in-House : goal.returns-in-House
returns-in-House c = record { stops = λ m is. rw c.in-House.is (c.stops_at_house.ensures.stops m is) }

-- nobody stops it at the door with a page
pub returns-in-Page : goal.returns-in-Page
returns-in-Page c = record { stops = λ m is. rw c.in-Page.is refl }
