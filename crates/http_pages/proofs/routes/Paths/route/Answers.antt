-- A target that is UTF-8 is looked up, and any other has no path.
use Rattle.std.specs.Prelude.{refl}
use Rattle.std.proofs.lemmas.Str.{is_utf8-from_IsUtf8}
use Rattle.http_pages.proofs.TextLemmas.{not_utf8}
use Rattle.http_pages.proofs.routes.Paths.route.Goals as goal

-- the text is the target's bytes
pub returns-in-Ok : goal.returns-in-Ok
returns-in-Ok c =
    let cases = c.in-Ok.ensures.cases in
    rw (is_utf8-from_IsUtf8 c.args.target.now cases.1, ← cases.0) (record { route = c.route_of_text.ensures.route })

-- the bytes are not UTF-8
pub returns-in-Err : goal.returns-in-Err
returns-in-Err c = rw (not_utf8 c.args.target.now c.in-Err.ensures.cases.0) (record { route = refl })
