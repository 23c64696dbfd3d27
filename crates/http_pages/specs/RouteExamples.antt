-- Worked examples of routes.
use Rattle.std.specs.Prelude.{◌≡◌, true, false, codes, Some, None, Ok, Err, refl}
use Rattle.std.specs.Fmt.{digits}
use Rattle.std.specs.Str.{is_utf8, chars}
use lib.Utf8.{encode}
use Rattle.matchit.proofs.OnLiterals.{matchit_on_literals}
use Rattle.allotment.specs.declared.codes.Kind.TheVariants.{Room}
use Rattle.commands.specs.declared.replies.Refusal.TheVariants as refusal
use Rattle.saga_core.specs.declared.cell_filters.CellFilter.{CellFilter}
use Rattle.http_pages.specs.Admitting.{admitted, plain}
use Rattle.http_pages.specs.Routes.{asked, cells_at, routes, route_of}
use Rattle.http_pages.specs.declared.routes.Place.TheVariants as place
use Rattle.http_pages.specs.declared.routes.Route.TheVariants.{LoadBatch, Step, Abort, Save, ShowJourney, ShowPlan, ShowWhy, ShowBegun, ShowStock, ShowCells, ShowAgent}
use Rattle.http_pages.specs.declared.routes.Unrouted.TheVariants.{UnknownPath, WrongMethod, BadPart}
use Rattle.http_pages.specs.declared.routes.Verb.TheVariants.{Get}

-- Targets with a route.

-- the next step of journey 17
pub step_is_found : route_of (codes "POST") (codes "/journeys/17/step") ≡ Ok (Step 17)
unfolding routes digits is_utf8 chars encode matchit_on_literals
step_is_found = refl

-- the turn of journey 1 to position 0
pub abort_is_found : route_of (codes "POST") (codes "/journeys/1/abort/0") ≡ Ok (Abort 1 0)
unfolding routes digits is_utf8 chars encode matchit_on_literals
abort_is_found = refl

-- a save-point of journey 1
pub save_is_found : route_of (codes "POST") (codes "/journeys/1/save") ≡ Ok (Save 1)
unfolding routes digits is_utf8 chars encode matchit_on_literals
save_is_found = refl

-- a batch, by its name
pub batch_is_found : route_of (codes "POST") (codes "/batches/b1") ≡ Ok (LoadBatch (codes "b1"))
unfolding routes digits is_utf8 chars encode matchit_on_literals
batch_is_found = refl

-- a journey, whose path is a prefix of others
pub journey_is_found : route_of (codes "GET") (codes "/journeys/1") ≡ Ok (ShowJourney 1)
unfolding routes digits is_utf8 chars encode matchit_on_literals
journey_is_found = refl

-- the plan of a journey
pub plan_is_found : route_of (codes "GET") (codes "/journeys/1/plan") ≡ Ok (ShowPlan 1)
unfolding routes digits is_utf8 chars encode matchit_on_literals
plan_is_found = refl

-- why a journey goes on or does not
pub why_is_found : route_of (codes "GET") (codes "/journeys/1/why") ≡ Ok (ShowWhy 1)
unfolding routes digits is_utf8 chars encode matchit_on_literals
why_is_found = refl

-- the journey that was begun under a key, whatever the key is
pub begun_is_found : route_of (codes "GET") (codes "/journeys/by-key/step") ≡ Ok (ShowBegun (codes "step"))
unfolding routes digits is_utf8 chars encode matchit_on_literals
begun_is_found = refl

-- all cells of June 2030, whose first night is day 22066 and whose last is day 22095
abbrev pub june : CellFilter
june = record { kind = None; supplier = None; product = None; from = Some 22066; to = Some 22095 }

pub month_is_found : route_of (codes "GET") (codes "/stock/2030-06-01/2030-06-30") ≡ Ok (ShowCells june)
unfolding routes digits is_utf8 chars encode matchit_on_literals
month_is_found = refl

-- the doubles of the inn in that month
pub product_is_asked :
    cells_at (codes "/stock/2030-06-01/2030-06-30/room/INN/DBL")
    ≡ Some (record june { kind = Some Room; supplier = Some (codes "INN"); product = Some (codes "DBL") })
unfolding digits
product_is_asked = refl

-- the agent who asks
pub agent_is_found : route_of (codes "GET") (codes "/agent") ≡ Ok ShowAgent
unfolding routes digits is_utf8 chars encode matchit_on_literals
agent_is_found = refl

-- Targets without one.

-- a number of a journey has no leading zero
pub leading_zero_is_bad : route_of (codes "POST") (codes "/journeys/01/step") ≡ Err BadPart
unfolding routes digits is_utf8 chars encode matchit_on_literals
leading_zero_is_bad = refl

-- a kind has its whole word, and no letter
pub letter_is_no_kind : asked place.Cells (codes "/stock/2030-06-01/2030-06-30/R") ≡ None
unfolding digits
letter_is_no_kind = refl

-- a part of the stock may have a kind, and then a supplier and a product; here no part is well formed
pub kind_has_a_path : route_of (codes "GET") (codes "/stock/1/2/3") ≡ Err BadPart
unfolding routes digits is_utf8 chars encode matchit_on_literals
kind_has_a_path = refl

pub product_has_a_path : route_of (codes "GET") (codes "/stock/1/2/3/4/5") ≡ Err BadPart
unfolding routes digits is_utf8 chars encode matchit_on_literals
product_has_a_path = refl

-- a part of the stock has two nights
pub one_night_has_no_path : route_of (codes "GET") (codes "/stock/2030-06-01") ≡ Err UnknownPath
unfolding routes digits is_utf8 chars encode matchit_on_literals
one_night_has_no_path = refl

-- the method is checked before the number: this path has the method GET
pub method_comes_before_the_number :
    route_of (codes "POST") (codes "/journeys/x") ≡ Err (WrongMethod Get)
unfolding routes digits is_utf8 chars encode matchit_on_literals
method_comes_before_the_number = refl

-- an empty part is no part
pub empty_part_has_no_path : route_of (codes "GET") (codes "/journeys/") ≡ Err UnknownPath
unfolding routes digits is_utf8 chars encode matchit_on_literals
empty_part_has_no_path = refl

-- one more slash makes another path
pub slash_behind_has_no_path : route_of (codes "POST") (codes "/journeys/1/step/") ≡ Err UnknownPath
unfolding routes digits is_utf8 chars encode matchit_on_literals
slash_behind_has_no_path = refl

-- a query is a part of the path
pub query_has_no_path : route_of (codes "GET") (codes "/stock?x") ≡ Err UnknownPath
unfolding routes digits is_utf8 chars encode matchit_on_literals
query_has_no_path = refl

-- no path has the method HEAD
pub head_is_another_method : route_of (codes "HEAD") (codes "/stock") ≡ Err (WrongMethod Get)
unfolding routes digits is_utf8 chars encode matchit_on_literals
head_is_another_method = refl

-- The order of what is wrong.

-- a POST with a bad number, without agent and key: the agent is reported first
pub agent_comes_before_the_key :
    admitted (Err BadPart) false false true ≡ Err (plain refusal.NoAgent)
agent_comes_before_the_key = refl

-- the missing key is reported next
pub key_comes_before_the_number : admitted (Err BadPart) true false true ≡ Err (plain refusal.NoKey)
key_comes_before_the_number = refl

-- who asks which agent asks must be one
pub agent_is_shown_to_agents : admitted (Ok ShowAgent) false false false ≡ Err (plain refusal.NoAgent)
agent_is_shown_to_agents = refl

-- a GET needs no key
pub get_needs_no_key : admitted (Ok ShowStock) true false false ≡ Ok ShowStock
get_needs_no_key = refl

-- an unknown path is reported before all else
pub path_comes_before_all :
    admitted (Err UnknownPath) false false true ≡ Err (plain refusal.UnknownPath)
path_comes_before_all = refl
