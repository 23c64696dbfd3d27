-- The methods that paths of the desk have.
use Rattle.std.specs.Prelude.{ℕ, List, codes}
use Rattle.http_pages.specs.declared.routes.Verb.{Verb}
use Rattle.http_pages.specs.declared.routes.Verb.TheVariants.{Get, Post}

-- how a method is spelled
abbrev pub verb_text : Verb → List ℕ
verb_text Get = codes "GET"
verb_text Post = codes "POST"
