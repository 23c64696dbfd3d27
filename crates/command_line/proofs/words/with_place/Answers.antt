-- The line stands after the text where `clap` says that the word was unexpected.
use Rattle.std.proofs.Common.{◌≡◌, ◌∙◌, nat_eq, ap, ap₂, sym, true, codes, ◌++◌, if◌then◌else◌}
use Rattle.std.specs.List.{starts_with}
use Rattle.std.specs.String.{string_bytes}
use Rattle.command_line.specs.Explaining.{misplaced, place_line}
use Rattle.command_line.proofs.words.with_place.Goals as goal

pub returns-in-Ok : goal.returns-in-Ok
returns-in-Ok c =
    let s = c.args.subcommand in
    let text = string_bytes c.args.text in
    let about : starts_with nat_eq text misplaced ≡ true =
    sym (ap₂ (λ x y. starts_with nat_eq x y) c.as_bytes.ensures.value c.as_bytes-2.ensures.value)
    ∙ (sym c.starts_with.ensures.value ∙ c.if-not-starts_with.false) in
    record {
      text = c.in-Ok.ensures.ok
          ∙ (ap (λ name. text ++ (codes "The word '--explain' stands before the command: 'desk --explain " ++ (name ++ codes "'.\n"))) c.name-name.ensures.name
          ∙ sym (ap (λ is. if is then text ++ place_line s else text) about));
    }
