-- Out of memory there are no slots; else they had no connection before.
use Rattle.std.proofs.Common.{◌≡◌, [], All, false, map, refl, subst, sym}
use Rattle.std.proofs.lemmas.List.Elements.{All-map, All-nil, All-weaker}
use Rattle.http_live.specs.Arrivals.{HasBothOfOne, IsAtItsDoor, IsReadInItsMode}
use Rattle.http_live.specs.Calls.{IsEmpty}
use Rattle.http_live.specs.Slots.{exchanges_at}
use Rattle.http_live.proofs.DoorLemmas.{so_of_none}
use Rattle.http_live.proofs.Merged.{merges_none}
use Rattle.http_live.proofs.WorldLemmas.{worlds_go_on}
use Rattle.http_live.proofs.whole.serve_to_end.Goals as goal

pub returns-in_default-clause-goes_on : goal.returns-in_default-clause-goes_on
returns-in_default-clause-goes_on g c =
    let b = c.args.book.now in record {
      slots = [];
      doors = All-nil _;
      modes = All-nil _;
      pairs = All-nil _;
      before = [];
      none = All-nil _;
      goes_on = record {
        stopped = false;
        stops_as = refl;
        worlds = worlds_go_on false false [] [] [] (g.met.B.Book.settled b) (merges_none [] [] refl);
      };
    }

pub returns-clause-goes_on : goal.returns-clause-goes_on
returns-clause-goes_on g c =
    let turns = g.T.Turns in
    let slots = c.as_mut_slice.result.now in
    let empty = subst (All IsEmpty) (sym c.as_mut_slice.ensures.value) c.in-Ok.ensures.empty in
    let admits = c.serve_slots.ensures.admits in record {
      slots = c.serve_slots.new.slots;
      doors = admits.doors (so_of_none (IsAtItsDoor turns.is_at) slots empty);
      modes = admits.modes (so_of_none (IsReadInItsMode turns.is_by) slots empty);
      pairs = admits.pairs (so_of_none (HasBothOfOne turns.is_pair) slots empty);
      before = map exchanges_at slots;
      none = All-map (λ exchanges. exchanges ≡ []) exchanges_at slots
          (All-weaker IsEmpty (λ slot. exchanges_at slot ≡ []) (λ slot none. none.none) slots empty);
      goes_on = c.serve_slots.ensures.worlds;
    }
