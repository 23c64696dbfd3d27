-- The demand is that of the door.
use Rattle.desk_http.proofs.demands.demand_in.Goals as goal

-- at the port
pub returns-in-Port : goal.returns-in-Port
returns-in-Port c = record { demand = λ parts body is. rw c.in-Port.is (c.agents_demand.ensures.demand parts body is) }

-- at the administrator's socket
pub returns-in-House : goal.returns-in-House
returns-in-House c = record { demand = λ parts body is. rw c.in-House.is (c.demand_at_house.ensures.demand parts body is) }

-- at the door with a page
pub returns-in-Page : goal.returns-in-Page
returns-in-Page c = record { demand = λ parts body is. rw c.in-Page.is (c.demand_at_page.ensures.demand parts body is) }
