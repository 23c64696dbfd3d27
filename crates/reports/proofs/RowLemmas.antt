-- Rows that were written one after another. For sending rows.
use Rattle.std.proofs.Common.{◌≡◌, ◌∙◌, ap, sym, subst, refl, ℕ, ◌+◌, List, [], ◌∷◌, ◌++◌, length, append-nil, append_assoc, length-append, Option, Some, Result, Ok, Err, IsErr, IsErrAnd}
use Rattle.std.specs.Io.KnownBytes.{Appends}
use Rattle.std.specs.List.{flat_map}
use Rattle.std.proofs.lemmas.List.Concat.{flat_map-append}
use Rattle.saga_core.specs.RowSources.{Hands}
use Rattle.saga_core.specs.declared.row_sources.RowSource.{Ghosts}
use Rattle.saga_core.specs.Written.{WroteFront}
use Rattle.saga_core.proofs.ByteLemmas.{appends_more}
use Rattle.reports.specs.Writing.{Sends, Takes, WritesCounted, Wrote}
use Rattle.reports.specs.declared.faults.ReportFault.{ReportFault}
use Rattle.reports.proofs.FrontLemmas.{appends_none, front_after, front_before, front_whole}
use Rattle.reports.proofs.TakeLemmas.{Goes, is_fault, Taken, taken_more, taken_none, takes_apart, takes_twice, writes_failed}

-- the first `count` rows were written, and the others remain
pub record SoFar {T : Type 0} (shown : T → List ℕ) (rests : List T → Type 0)
    (held holds : Option (List ℕ)) (all : List T) (count : ℕ) : Type 0 where
  pub gone : List T
  pub taken : Taken rests all gone
  pub sent : Appends held holds (flat_map shown gone)
  pub counted : count ≡ length gone

-- at first no row was written
pub starts : {T : Type 0} {shown : T → List ℕ} {rests : List T → Type 0} {held : Option (List ℕ)} {all : List T}
    → rests all → SoFar shown rests held held all 0
starts {held = held} rest = record { gone = []; taken = taken_none _ rest; sent = appends_none held; counted = refl }

module _ {T : Type 0} {shown : T → List ℕ} {rested : List T → Type 0} {held holds : Option (List ℕ)} {all : List T} {count : ℕ}
    (so_far : SoFar shown rested held holds all count) where
  -- no row remains: all were written
  all_gone : so_far.taken.later ≡ [] → Wrote held holds (flat_map shown all) (length all) (Ok count)
  all_gone none =
      let same : all ≡ so_far.gone = so_far.taken.cut ∙ ap (λ rows. so_far.gone ++ rows) none ∙ append-nil so_far.gone in
      let written = subst (λ rows. Appends held holds (flat_map shown rows)) (sym same) so_far.sent in
      record { written = written; number = so_far.counted ∙ ap length (sym same); front = front_whole held holds (flat_map shown all) written }

  -- what was written is a prefix
  front_of : WroteFront held holds (flat_map shown all)
  front_of =
      let whole : flat_map shown all ≡ flat_map shown so_far.gone ++ flat_map shown so_far.taken.later =
      ap (flat_map shown) so_far.taken.cut ∙ flat_map-append shown so_far.gone so_far.taken.later in
      subst (WroteFront held holds) (sym whole)
      (front_before held holds (flat_map shown so_far.gone) (flat_map shown so_far.taken.later)
      (front_whole held holds (flat_map shown so_far.gone) so_far.sent))

  module _ (rests : List T → Type 0) {row : T} (hands : Hands rested rests (Some row)) where
    -- one more row was written
    goes_on : {now : Option (List ℕ)} → Appends holds now (shown row) → SoFar shown rests held now all (count + 1)
    goes_on {now} sent =
        let gone = so_far.gone in
        let whole : flat_map shown (gone ++ row ∷ []) ≡ flat_map shown gone ++ shown row =
        flat_map-append shown gone (row ∷ []) ∙ ap (λ t. flat_map shown gone ++ t) (append-nil (shown row)) in
        record {
          gone = gone ++ row ∷ [];
          taken = taken_more so_far.taken rests hands;
          sent = subst (Appends held now) (sym whole) (appends_more held holds now (flat_map shown gone) (shown row) so_far.sent sent);
          counted = ap (λ n. n + 1) so_far.counted ∙ sym (length-append gone (row ∷ []));
        }

    -- what was written stays a prefix where a prefix of the next row was written
    front_with : (now : Option (List ℕ)) → WroteFront holds now (shown row) → WroteFront held now (flat_map shown all)
    front_with now front =
        let more = taken_more so_far.taken rests hands in
        let whole : flat_map shown all ≡ flat_map shown so_far.gone ++ (shown row ++ flat_map shown more.later) =
        ap (flat_map shown) (more.cut ∙ append_assoc so_far.gone (row ∷ []) more.later) ∙ flat_map-append shown so_far.gone (row ∷ more.later) in
        subst (WroteFront held now) (sym whole)
        (front_after held holds now (flat_map shown so_far.gone) (shown row ++ flat_map shown more.later) so_far.sent
        (front_before holds now (shown row) (flat_map shown more.later) front))

-- What a source's rows make, as the rows themselves or their months, was taken and written one after another: so many so far.
pub record SoManyWritten {R T U : Type 0} (source : Ghosts R T) (first old : R) (made : List T → List U) (left : List U → Type 0)
    (shown : U → List ℕ) (held holds : Option (List ℕ)) (count : ℕ) : Type 0 where
  pub so_far : source.is_sound old → (all : List T) → source.rests first all → SoFar shown left held holds (made all) count
  pub takes : Goes source first old

module _ {R T U : Type 0} {source : Ghosts R T} {first old new : R} {made : List T → List U} {left : List U → Type 0}
    {shown : U → List ℕ} {held holds : Option (List ℕ)} {count : ℕ} (so_many : SoManyWritten source first old made left shown held holds count)
    (joins : (a b c : R) → source.becomes a b → source.becomes b c → source.becomes a c) where
  module _ (keeps_sound : source.is_sound new → source.is_sound old) where
    so_far : source.is_sound new → (all : List T) → source.rests first all → SoFar shown left held holds (made all) count
    so_far sound all rest = so_many.so_far (keeps_sound sound) all rest

    module _ (after : List U → Type 0) {found : Option U} (next : source.is_sound new → Hands left after found) {row : U} (some : found ≡ Some row) where
      hands : source.is_sound new → Hands left after (Some row)
      hands sound = subst (Hands left after) some (next sound)

  -- a fault came before the next one was written
  pub written_less : {result : Result ℕ ReportFault} {Counted : ℕ → Type 0} {NoneLeft : Type 0} → Takes source old new result → IsErr result
      → WritesCounted source first new (λ all. flat_map shown (made all)) (λ all. length (made all)) Counted NoneLeft held holds result
  written_less took is = writes_failed _ is (takes_twice source joins so_many.takes took) (λ sound all rest. front_of (so_far took.sound sound all rest))

  module _ (took : Goes source old new) where
    -- there is no further one
    pub written_all : {Counted : ℕ → Type 0} {NoneLeft : Type 0} → (source.is_sound new → (rows : List U) → left rows → (rows ≡ []) × NoneLeft) → Counted count
        → WritesCounted source first new (λ all. flat_map shown (made all)) (λ all. length (made all)) Counted NoneLeft held holds (Ok count)
    written_all last counted =
        let whole = takes_twice source joins so_many.takes took in
        record {
          wrote = λ sound all rest. (let it = so_far took.sound sound all rest in all_gone it (last sound it.taken.later it.taken.rest).0);
          rest = λ sound all rest. (let it = so_far took.sound sound all rest in (last sound it.taken.later it.taken.rest).1);
          given = counted;
          takes = record { kept = whole.kept; sound = whole.sound; reason = whole.reason };
        }

    module _ (after : List U → Type 0) {found : Option U} (next : source.is_sound new → Hands left after found) {row : U} (some : found ≡ Some row)
        {now : Option (List ℕ)} {V : Type 0} where
      -- a prefix of one more was written
      pub written_part : {fault : ReportFault} {Counted : ℕ → Type 0} {NoneLeft : Type 0} → Sends holds now (shown row) {T = V} (Err fault)
          → (result : Result ℕ ReportFault) → IsErrAnd result (λ told. told ≡ fault)
          → WritesCounted source first new (λ all. flat_map shown (made all)) (λ all. length (made all)) Counted NoneLeft held now result
      written_part {fault} sends result is =
          writes_failed result (is_fault fault result is) (takes_twice source joins so_many.takes (takes_apart source fault took sends.no_store result is))
          (λ sound all rest. front_with (so_far took.sound sound all rest) after (hands took.sound after next some sound) now sends.front)

      -- one more was written
      pub written_more : {value : V} → Sends holds now (shown row) (Ok value) → SoManyWritten source first new made after shown held now (count + 1)
      written_more sends = record {
        so_far = λ sound all rest. goes_on (so_far took.sound sound all rest) after (hands took.sound after next some sound) sends.sent;
        takes = takes_twice source joins so_many.takes took;
      }
