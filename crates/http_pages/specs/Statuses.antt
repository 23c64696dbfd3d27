-- The statuses of pages, with their codes and phrases, and the status of each refusal.
use Rattle.std.specs.Prelude.{ℕ, List, codes}
use Rattle.commands.specs.declared.replies.Refusal.{Refusal}
use Rattle.commands.specs.declared.replies.Refusal.TheVariants as refusal
use Rattle.http_pages.specs.declared.heads.Status.{Status}
use Rattle.http_pages.specs.declared.heads.Status.TheVariants.{Fine, BadRequest, NotFound, NotAllowed, Conflict, LengthRequired, TooLarge}

-- the code of a status
abbrev pub status_code : Status → ℕ
status_code Fine = 200
status_code BadRequest = 400
status_code NotFound = 404
status_code NotAllowed = 405
status_code Conflict = 409
status_code LengthRequired = 411
status_code TooLarge = 413

-- the phrase of a status
abbrev pub phrase : Status → List ℕ
phrase Fine = codes "OK"
phrase BadRequest = codes "Bad Request"
phrase NotFound = codes "Not Found"
phrase NotAllowed = codes "Method Not Allowed"
phrase Conflict = codes "Conflict"
phrase LengthRequired = codes "Length Required"
phrase TooLarge = codes "Content Too Large"

-- the status of a refusal's page. The last two are refusals of files: they answer no request, and
-- count as conflicts
abbrev pub status_of : Refusal → Status
status_of refusal.BadHead = BadRequest
status_of refusal.NoAgent = BadRequest
status_of refusal.NoKey = BadRequest
status_of refusal.BadBody = BadRequest
status_of (refusal.BadPlan fault) = BadRequest
status_of (refusal.BadCsv row cause) = BadRequest
status_of refusal.UnknownPath = NotFound
status_of refusal.WrongMethod = NotAllowed
status_of refusal.NoJourney = NotFound
status_of refusal.Finished = Conflict
status_of refusal.NoSavePoint = Conflict
status_of (refusal.BelowHeld row) = Conflict
status_of refusal.BatchDiffers = Conflict
status_of refusal.KeyReused = Conflict
status_of refusal.TooLarge = TooLarge
status_of refusal.Limit = Conflict
status_of refusal.NoLength = LengthRequired
status_of refusal.NoSave = Conflict
status_of (refusal.UnknownSchema version) = Conflict
status_of refusal.AlreadyNew = Conflict
