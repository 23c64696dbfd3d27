-- What is wrong with a request before its body is read, in the order of the checks.
use Rattle.std.specs.Prelude.{◌&&◌, not, Bool, true, false, List, [], ◌∷◌, ◌++◌, if◌then◌else◌, Some, None, Result, Ok, Err}
use Rattle.commands.specs.declared.replies.Refusal.{Refusal}
use Rattle.commands.specs.declared.replies.Refusal.TheVariants as refusal
use Rattle.http_pages.specs.declared.routes.Denied.{Denied}
use Rattle.http_pages.specs.declared.routes.Route.{Route}
use Rattle.http_pages.specs.declared.routes.Route.TheVariants.{ShowHealth}
use Rattle.http_pages.specs.declared.routes.Unrouted.{Unrouted}
use Rattle.http_pages.specs.declared.routes.Unrouted.TheVariants.{UnknownPath, WrongMethod, BadPart}

-- a refusal without a method for `Allow`
abbrev pub plain : Refusal → Denied
plain why = record { refusal = why; allow = None }

-- the refusal is that of another method
abbrev pub is_of_method : Refusal → Bool
is_of_method refusal.WrongMethod = true
is_of_method _ = false

-- this is wrong if the test holds
abbrev pub wrong_if : Bool → Refusal → List Denied
wrong_if test why = if test then plain why ∷ [] else []

-- what is wrong with the path or its method: it is unknown, or it has another method, which is reported
abbrev pub path_faults : Result Route Unrouted → List Denied
path_faults (Err UnknownPath) = plain refusal.UnknownPath ∷ []
path_faults (Err (WrongMethod verb)) =
    record { refusal = refusal.WrongMethod; allow = Some verb } ∷ []
path_faults (Err BadPart) = []
path_faults (Ok route) = []

-- who asks must be an agent, unless it is for how many events and journeys there are
abbrev pub needs_agent : Result Route Unrouted → Bool
needs_agent (Ok ShowHealth) = false
needs_agent _ = true

-- what is wrong before the parts of the path are checked: path and method, agent, key of a POST
abbrev pub faults : Result Route Unrouted → (has_agent has_key is_post : Bool) → List Denied
faults found has_agent has_key is_post =
    path_faults found ++ (wrong_if (needs_agent found && not has_agent) refusal.NoAgent
    ++ wrong_if (is_post && not has_key) refusal.NoKey)

-- if none of these is wrong: what was found, or that a part of the path is malformed
abbrev pub at_last : Result Route Unrouted → Result Route Denied
at_last (Ok route) = Ok route
at_last (Err why) = Err (plain refusal.BadBody)

-- the first of these faults, and last the parts of the path
abbrev pub first_or : Result Route Unrouted → List Denied → Result Route Denied
first_or found (fault ∷ later) = Err fault
first_or found [] = at_last found

-- what is asked for, or the first thing that is wrong
abbrev pub admitted : Result Route Unrouted → (has_agent has_key is_post : Bool)
    → Result Route Denied
admitted found has_agent has_key is_post = first_or found (faults found has_agent has_key is_post)
