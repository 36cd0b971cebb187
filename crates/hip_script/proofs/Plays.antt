-- The text that is written for the lines of a script, a run or a line at a time.
use Rattle.std.proofs.Common.{◌≡◌, ℕ, ◌+◌, ◌-◌, ◌^◌, ◌<◌, ◌≤◌, ◌⊎◌, Bool, true, false, inl, inr, codes, ap₂, List, [], ◌∷◌, ◌++◌, length, suc, take, drop, get_or, map, Option, Err, refl, sym, ap, ◌∙◌, subst, append_assoc, arith}
use Rattle.std.proofs.lemmas.Bool.{cases_lt, le-ltb, lt-ltb}
use Rattle.std.proofs.lemmas.List.{append-nil, map-append, map_more, take_all, take-append-drop}
use Rattle.std.proofs.Math.Nat.{le_trans, min-le_left}
use Rattle.std.proofs.Math.Seq.{split_at}
use Rattle.std.specs.Io.KnownBytes.{Appends}
use Rattle.hipstr.proofs.Counts.{counts-more}
use Rattle.hipstr.specs.{Meter.RisesAtLeast, Run.Run, Slot.SlotState, Slot.state_at, Step.Costs, Step.Step, Step.counts_of, declared.command.Answer.Answer, declared.command.Command.Command, declared.command.Command.TheVariants.New}
use Rattle.hip_script.proofs.Appended.{appends-none, appends-then}
use Rattle.hip_script.proofs.Printing.{front-then}
use Rattle.hip_script.specs.Performed.{AsideText, CutsLine, CutsRun, PerformsAt, Place, PlaysLine, Tells, told}
use Rattle.hip_script.specs.Played.{Answers, EndsList, FieldsText, IsAside, IsCutShort, IsPlayed, IsPlayedInPart, State, Writes, WritesAll, at_start, fields_cost, printed_show}
use Rattle.hip_script.specs.Printed.{printed_answer, printed_answers, printed_slot}
use Rattle.hip_script.specs.Said.{Held, aside_says, line_says, says_in}
use Rattle.hip_script.specs.{Spoken.Spoken, Told.says, declared.line.Aside.Aside, declared.line.Line.Line}
use Rattle.hip_script.specs.{declared.line.Line.TheVariants.Command as CommandLine, declared.line.Line.TheVariants.Aside as AsideLine, declared.said.Said.Said}
use Rattle.hip_script.specs.declared.fault.WriteFailed.{WriteFailed}
use Rattle.hip_script.specs.declared.line.Aside.TheVariants.{Show, Copied, Fields as FieldsOf}

-- the lines so far, of which some wait
pub record IsPlayedSoFar (shares : Bool) (lines waiting : List Spoken) (place : Place) (old : Option (List ℕ)) : Type 0 where
  pub done : List Spoken
  pub text : List ℕ
  pub state : State
  pub writes : WritesAll shares at_start done text state
  pub slots : state.slots ≡ place.slots
  pub low : RisesAtLeast 0 place.counted state.least
  pub high : place.counted ≤ state.most
  pub written : Appends old place.written text
  pub all : done ++ waiting ≡ lines

-- a command's line is none of the three others
writes-said : (shares : Bool) (old new : State) (command : Command) (text : List ℕ) → Answers shares old (says command) text new → Writes shares old (says command) text new
writes-said shares old new (New a) text answers = answers
writes-said shares old new command text answers = answers

abbrev behind : State → List SlotState → ℕ → ℕ → State
behind old slots count cost = record { slots = slots; least = old.least + count; most = old.most + cost }

writes-step : (shares : Bool) (old : State) (command : Command) (answer : Answer) (between : List SlotState) (cost : ℕ)
    → Step shares old.slots command answer between → Costs shares old.slots command cost
    → Writes shares old (says command) (printed_answer answer) (behind old between (counts_of shares old.slots command answer between) cost)
writes-step shares old command answer between cost step costs =
    writes-said shares old (behind old between (counts_of shares old.slots command answer between) cost) command (printed_answer answer) (record {
      command = command;
      answer = answer;
      cost = cost;
      is = refl;
      step = step;
      costs = costs;
      least = refl;
      most = refl;
      printed = refl;
    })

writes-run : (shares : Bool) (old : State) (commands : List Command) (answers : List Answer) (new : List SlotState) (least most : ℕ)
    → Run shares old.slots commands answers new least most → WritesAll shares old (map says commands) (printed_answers answers) (behind old new least most)
writes-run shares old [] [] new least most run = (
  refl,
  ap (λ slots. behind old slots least most) run.0
      ∙ ap₂ (λ least most. record { slots = old.slots; least = least; most = most }) (let none = run.1 in omega arith) (let none = run.2 in omega arith),
)
writes-run shares old (c ∷ cs) (a ∷ xs) new least most run =
    let count = counts_of shares old.slots c a run.0 in
    let mid = behind old run.0 count run.1 in
    let counted : old.least + count + run.2 ≡ old.least + least = (let less = run.7 in omega arith) in
    let paid : old.most + run.1 + run.3 ≡ old.most + most = (let more = run.8 in omega arith) in
    let later = writes-run shares mid cs xs new run.2 run.3 run.6 in (
      mid,
      printed_answer a,
      printed_answers xs,
      writes-step shares old c a run.0 run.1 run.4 run.5,
      rw (counted, paid) at later,
      refl,
    )
writes-run shares old [] (a ∷ xs) new least most run = absurd run
writes-run shares old (c ∷ cs) [] new least most run = absurd run

writes-then : (shares : Bool) (old mid new : State) (first more : List Spoken) (before after : List ℕ) → WritesAll shares old first before mid
    → WritesAll shares mid more after new → WritesAll shares old (first ++ more) (before ++ after) new
writes-then shares old mid new [] more before after writes later =
    rw writes.0 (subst (λ (state : State). WritesAll shares state more after new) writes.1 later)
writes-then shares old mid new (x ∷ xs) more before after writes later = (
  writes.0,
  writes.1,
  writes.2 ++ after,
  writes.3,
  writes-then shares writes.0 mid new xs more writes.2 after writes.4 later,
  rw writes.5 (append_assoc writes.1 writes.2 after),
)

writes-one : (shares : Bool) (old mid new : State) (first : List Spoken) (line : Spoken) (before after : List ℕ) → WritesAll shares old first before mid
    → Writes shares mid line after new → WritesAll shares old (first ++ line ∷ []) (before ++ after) new
writes-one shares old mid new first line before after writes last =
    writes-then shares old mid new first (line ∷ []) before after writes (new, after, [], last, (refl, refl), sym (append-nil after))

-- nothing was written yet
pub played-none : (shares : Bool) (slots : List SlotState) (counted : ℕ) (old : Option (List ℕ)) → slots ≡ at_start.slots → counted ≡ 0
    → IsPlayedSoFar shares [] [] (record { slots = slots; counted = counted; written = old }) old
played-none shares slots counted old empty none = record {
  done = [];
  text = [];
  state = at_start;
  writes = (refl, refl);
  slots = sym empty;
  low = omega (arith, min-le_left 0 (2 ^ 128 - 1));
  high = omega arith;
  written = appends-none old;
  all = refl;
}

pub played-run : (shares : Bool) (lines : List Spoken) (commands : List Command) (place new : Place) (old : Option (List ℕ))
    → IsPlayedSoFar shares lines (map says commands) place old → PerformsAt shares commands place new → IsPlayedSoFar shares lines [] new old
played-run shares lines commands place new old so_far performs =
    let run = subst (λ (slots : List SlotState). Run shares slots commands performs.answers new.slots performs.least performs.most) (sym so_far.slots) performs.run in
    let high = so_far.high in
    let at_most = performs.rises.at_most in
    record {
      done = lines;
      text = so_far.text ++ printed_answers performs.answers;
      state = behind so_far.state new.slots performs.least performs.most;
      writes = rw (sym so_far.all) (writes-then shares at_start so_far.state (behind so_far.state new.slots performs.least performs.most) so_far.done (map says commands) so_far.text
          (printed_answers performs.answers) so_far.writes (writes-run shares so_far.state commands performs.answers new.slots performs.least performs.most run));
      slots = refl;
      low = counts-more 0 place.counted new.counted so_far.state.least performs.least so_far.low performs.copied;
      high = omega arith;
      written = appends-then old place.written new.written so_far.text (printed_answers performs.answers) so_far.written performs.written;
      all = append-nil lines;
    }

-- a line that is no command, whose text is told
pub record AsideWrites (shares : Bool) (state : State) (line : Spoken) (text : List ℕ) (slots : List SlotState) (counts : ℕ) : Type 0 where
  pub new : State
  pub writes : Writes shares state line text new
  pub slots_are : new.slots ≡ slots
  pub low : RisesAtLeast 0 counts new.least
  pub high : counts ≤ new.most

aside-writes : (shares : Bool) (state : State) (slots : List SlotState) (aside : Aside) (counted counts : ℕ) (text : List ℕ) → state.slots ≡ slots
    → RisesAtLeast 0 counted state.least → counted ≤ state.most → AsideText shares slots aside counted counts text
    → AsideWrites shares state (aside_says aside) text slots counts
aside-writes shares state slots (Show s) counted counts text same low high tells =
    let is = tells.1 in record {
      new = state;
      writes = (tells.0 ∙ ap (λ t. printed_show t s) (sym same), refl);
      slots_are = same;
      low = rw is low;
      high = omega arith;
    }
aside-writes shares state slots Copied counted counts text same low high tells =
    let is = tells.1 in record {
      new = record { slots = state.slots; least = counted; most = counted };
      writes = (counted, low, high, tells.2, tells.0, refl);
      slots_are = same;
      low = rw is (omega (arith, min-le_left counted (2 ^ 128 - 1)));
      high = omega arith;
    }
aside-writes shares state slots (FieldsOf s separator) counted counts text same low high tells =
    let never_falls = tells.1.never_falls in
    let at_most = subst (λ (t : List SlotState). counts ≤ counted + fields_cost shares t s separator) (sym same) tells.1.at_most in record {
      new = record { slots = state.slots; least = state.least; most = state.most + fields_cost shares state.slots s separator };
      writes = (subst (λ (t : List SlotState). FieldsText t s separator text) (sym same) tells.0, refl);
      slots_are = same;
      low = le_trans low never_falls;
      high = omega arith;
    }

pub played-aside : (shares : Bool) (lines : List Spoken) (aside : Aside) (place new : Place) (old : Option (List ℕ)) → IsPlayedSoFar shares lines [] place old
    → new.slots ≡ place.slots → Tells shares place.slots aside place.counted new.counted place.written new.written told
    → IsPlayedSoFar shares (lines ++ aside_says aside ∷ []) [] new old
played-aside shares lines aside place new old so_far same tells =
    let writes = aside-writes shares so_far.state place.slots aside place.counted new.counted tells.text so_far.slots so_far.low so_far.high tells.tells in
    let all : so_far.done ≡ lines = sym (append-nil so_far.done) ∙ so_far.all in record {
      done = lines ++ aside_says aside ∷ [];
      text = so_far.text ++ tells.text;
      state = writes.new;
      writes = rw (sym all) (writes-one shares at_start so_far.state writes.new so_far.done (aside_says aside) so_far.text tells.text so_far.writes writes.writes);
      slots = writes.slots_are ∙ sym same;
      low = writes.low;
      high = writes.high;
      written = appends-then old place.written new.written so_far.text tells.text so_far.written tells.written;
      all = append-nil (lines ++ aside_says aside ∷ []);
    }

pub played-command : (shares : Bool) (lines waiting : List Spoken) (line : Spoken) (place : Place) (old : Option (List ℕ))
    → IsPlayedSoFar shares lines waiting place old → IsPlayedSoFar shares (lines ++ line ∷ []) (waiting ++ line ∷ []) place old
played-command shares lines waiting line place old so_far = record {
  done = so_far.done;
  text = so_far.text;
  state = so_far.state;
  writes = so_far.writes;
  slots = so_far.slots;
  low = so_far.low;
  high = so_far.high;
  written = so_far.written;
  all = sym (append_assoc so_far.done waiting (line ∷ [])) ∙ ap (λ t. t ++ line ∷ []) so_far.all;
}

-- the lines that were played end where a list does
is-aside : (aside : Aside) → IsAside (aside_says aside)
is-aside (Show s) = tt
is-aside Copied = tt
is-aside (FieldsOf s separator) = tt

-- what holds between two lines
pub record IsBetweenLines (shares : Bool) (lines waiting : List Spoken) (place : Place) (old : Option (List ℕ)) : Type 0 where
  pub so_far : IsPlayedSoFar shares lines waiting place old
  pub ends : EndsList so_far.done

pub between-none : (shares : Bool) (slots : List SlotState) (counted : ℕ) (old : Option (List ℕ)) → slots ≡ at_start.slots → counted ≡ 0
    → IsBetweenLines shares [] [] (record { slots = slots; counted = counted; written = old }) old
unfolding played-none
between-none shares slots counted old empty none = record { so_far = played-none shares slots counted old empty none; ends = inl refl }

-- one line more
played-line : (shares : Bool) (lines : List Spoken) (waiting left : List Command) (line : Line) (place new : Place) (old : Option (List ℕ))
    → IsBetweenLines shares lines (map says waiting) place old → PlaysLine shares line waiting left place new
    → IsBetweenLines shares (lines ++ line_says line ∷ []) (map says left) new old
unfolding played-command played-aside
played-line shares lines waiting left (CommandLine command) place new old so_far plays =
    let more : IsBetweenLines shares (lines ++ says command ∷ []) (map says waiting ++ says command ∷ []) place old =
    record { so_far = played-command shares lines (map says waiting) (says command) place old so_far.so_far; ends = so_far.ends } in
    rw (plays.0, plays.1, map-append says waiting (command ∷ [])) more
played-line shares lines waiting left (AsideLine aside) place new old so_far plays =
    rw plays.0 (record {
      so_far = played-aside shares lines aside plays.1 new old (played-run shares lines waiting place plays.1 old so_far.so_far plays.2) plays.3 plays.4;
      ends = inr (lines, aside_says aside, refl, is-aside aside);
    })

pub played-next : (shares : Bool) (held : Held) (items lines : List Said) (i : ℕ) (d : Said) (waiting left : List Command) (line : Line) (place new : Place) (old : Option (List ℕ))
    → items ≡ lines → i < length items → line_says line ≡ says_in held (get_or items i d)
    → IsBetweenLines shares (map (says_in held) (take i lines)) (map says waiting) place old → PlaysLine shares line waiting left place new
    → IsBetweenLines shares (map (says_in held) (take (i + 1) lines)) (map says left) new old
played-next shares held items lines i d waiting left line place new old same inside is so_far plays =
    let within = rw same at inside in
    let says_it = rw same at is in
    rw (map_more (says_in held) lines i d within, sym says_it)
    (played-line shares (map (says_in held) (take i lines)) waiting left line place new old so_far plays)

played-all : (shares : Bool) (lines : List Spoken) (place : Place) (old : Option (List ℕ)) → IsPlayedSoFar shares lines [] place old
    → IsPlayed shares lines old place.written
played-all shares lines place old so_far = record {
  text = so_far.text;
  state = so_far.state;
  writes = let all : so_far.done ≡ lines = sym (append-nil so_far.done) ∙ so_far.all in rw (sym all) so_far.writes;
  written = so_far.written;
}

pub played-last : (shares : Bool) (held : Held) (items lines : List Said) (i : ℕ) (waiting passed : List Command) (place new : Place) (old : Option (List ℕ))
    → items ≡ lines → length items ≤ i → passed ≡ waiting → IsPlayedSoFar shares (map (says_in held) (take i lines)) (map says waiting) place old
    → PerformsAt shares passed place new → IsPlayed shares (map (says_in held) lines) old new.written
played-last shares held items lines i waiting passed place new old same all passes so_far performs =
    let whole = rw (take_all i lines (rw same at all)) at so_far in
    let performed = rw passes at performs in
    played-all shares (map (says_in held) lines) new old (played-run shares (map (says_in held) lines) waiting place new old whole performed)

-- a write failed while those that wait were performed
pub cut-run : (shares : Bool) (lines later script : List Spoken) (commands : List Command) (place : Place) (old after : Option (List ℕ)) → lines ++ later ≡ script
    → IsPlayedSoFar shares lines (map says commands) place old → CutsRun shares place.slots commands place.written after → IsCutShort shares script old after
cut-run shares lines later script commands place old after all so_far cut =
    let run = subst (λ (slots : List SlotState). Run shares slots commands cut.answers cut.new cut.least cut.most) (sym so_far.slots) cut.run in
    record {
      front = lines;
      later = later;
      all = all;
      text = so_far.text ++ printed_answers cut.answers;
      state = behind so_far.state cut.new cut.least cut.most;
      writes = rw (sym so_far.all) (writes-then shares at_start so_far.state (behind so_far.state cut.new cut.least cut.most) so_far.done (map says commands) so_far.text
          (printed_answers cut.answers) so_far.writes (writes-run shares so_far.state commands cut.answers cut.new cut.least cut.most run));
      written = front-then old place.written after so_far.text (printed_answers cut.answers) so_far.written cut.written;
    }

-- a write failed while a line that is no command was told
cut-aside : (shares : Bool) (lines later script : List Spoken) (aside : Aside) (place : Place) (counts : ℕ) (failed : WriteFailed) (old after : Option (List ℕ)) → lines ++ aside_says aside ∷ later ≡ script
    → IsPlayedSoFar shares lines [] place old → Tells shares place.slots aside place.counted counts place.written after (Err failed) → IsCutShort shares script old after
cut-aside shares lines later script aside place counts failed old after all so_far tells =
    let writes = aside-writes shares so_far.state place.slots aside place.counted counts tells.text so_far.slots so_far.low so_far.high tells.tells in
    let whole : so_far.done ≡ lines = sym (append-nil so_far.done) ∙ so_far.all in
    record {
      front = lines ++ aside_says aside ∷ [];
      later = later;
      all = append_assoc lines (aside_says aside ∷ []) later ∙ all;
      text = so_far.text ++ tells.text;
      state = writes.new;
      writes = rw (sym whole) (writes-one shares at_start so_far.state writes.new so_far.done (aside_says aside) so_far.text tells.text so_far.writes writes.writes);
      written = front-then old place.written after so_far.text tells.text so_far.written tells.written;
    }

cut-line : (shares : Bool) (lines later script : List Spoken) (waiting : List Command) (line : Line) (place : Place) (old after : Option (List ℕ)) → lines ++ line_says line ∷ later ≡ script
    → IsPlayedSoFar shares lines (map says waiting) place old → CutsLine shares line waiting place after → IsCutShort shares script old after
cut-line shares lines later script waiting (CommandLine command) place old after all so_far never = absurd never
cut-line shares lines later script waiting (AsideLine aside) place old after all so_far (inl run) = cut-run shares lines (aside_says aside ∷ later) script waiting place old after all so_far run
cut-line shares lines later script waiting (AsideLine aside) place old after all so_far (inr cut) =
    cut-aside shares lines later script aside cut.0 cut.1 cut.2 old after all (played-run shares lines waiting place cut.0 old so_far cut.3) cut.4

-- at a line of a script
pub cut-at : (shares : Bool) (held : Held) (items lines : List Said) (i : ℕ) (d : Said) (waiting : List Command) (line : Line) (place : Place) (old after : Option (List ℕ))
    → items ≡ lines → i < length items → line_says line ≡ says_in held (get_or items i d)
    → IsPlayedSoFar shares (map (says_in held) (take i lines)) (map says waiting) place old → CutsLine shares line waiting place after → IsCutShort shares (map (says_in held) lines) old after
cut-at shares held items lines i d waiting line place old after same inside is so_far cut =
    let within = rw same at inside in
    let says_it : line_says line ≡ says_in held (get_or lines i d) = rw same at is in
    let parts : lines ≡ take i lines ++ get_or lines i d ∷ drop (suc i) lines = split_at lines i d within in
    let all : map (says_in held) (take i lines) ++ line_says line ∷ map (says_in held) (drop (suc i) lines) ≡ map (says_in held) lines =
    ap (λ said. map (says_in held) (take i lines) ++ said ∷ map (says_in held) (drop (suc i) lines)) says_it
    ∙ sym (map-append (says_in held) (take i lines) (get_or lines i d ∷ drop (suc i) lines)) ∙ ap (map (says_in held)) (sym parts) in
    cut-line shares (map (says_in held) (take i lines)) (map (says_in held) (drop (suc i) lines)) (map (says_in held) lines) waiting line place old after all so_far cut

-- and behind its last
pub cut-last : (shares : Bool) (held : Held) (items lines : List Said) (i : ℕ) (waiting passed : List Command) (place : Place) (old after : Option (List ℕ))
    → items ≡ lines → length items ≤ i → passed ≡ waiting → IsPlayedSoFar shares (map (says_in held) (take i lines)) (map says waiting) place old
    → CutsRun shares place.slots passed place.written after → IsCutShort shares (map (says_in held) lines) old after
cut-last shares held items lines i waiting passed place old after same all passes so_far cut =
    let whole = rw (take_all i lines (rw same at all)) at so_far in
    cut-run shares (map (says_in held) lines) [] (map (says_in held) lines) waiting place old after (append-nil (map (says_in held) lines)) whole (rw passes at cut)

-- the text written when memory was refused is that of some first lines
halves : (held : Held) (i : ℕ) (lines : List Said) → map (says_in held) (take i lines) ++ map (says_in held) (drop i lines) ≡ map (says_in held) lines
halves held i lines = sym (map-append (says_in held) (take i lines) (drop i lines)) ∙ ap (map (says_in held)) (take-append-drop i lines)

pub played-front : (shares : Bool) (held : Held) (lines : List Said) (i : ℕ) (waiting : List Command) (place : Place) (old after : Option (List ℕ))
    → after ≡ place.written → IsBetweenLines shares (map (says_in held) (take i lines)) (map says waiting) place old
    → IsPlayedInPart shares (map (says_in held) lines) old after
played-front shares held lines i waiting place old after same between = let so_far = between.so_far in record {
  front = so_far.done;
  later = map says waiting ++ map (says_in held) (drop i lines);
  all =
      sym (append_assoc so_far.done (map says waiting) (map (says_in held) (drop i lines)))
      ∙ ap (λ t. t ++ map (says_in held) (drop i lines)) so_far.all ∙ halves held i lines;
  ends = between.ends;
  played = record {
    text = so_far.text;
    state = so_far.state;
    writes = so_far.writes;
    written = rw same so_far.written;
  };
}

pub plays-aside : (shares : Bool) (line : Line) (aside : Aside) (waiting left : List Command) (old ran new : Place) → line ≡ AsideLine aside → left ≡ [] → PerformsAt shares waiting old ran → new.slots ≡ ran.slots
    → Tells shares ran.slots aside ran.counted new.counted ran.written new.written told → PlaysLine shares line waiting left old new
plays-aside shares line aside waiting left old ran new is empty performs same tells = rw is (empty, ran, performs, same, tells)

pub cuts-aside : (shares : Bool) (line : Line) (aside : Aside) (waiting : List Command) (old ran : Place) (counts : ℕ) (after : Option (List ℕ)) (failed : WriteFailed) → line ≡ AsideLine aside → PerformsAt shares waiting old ran
    → Tells shares ran.slots aside ran.counted counts ran.written after (Err failed) → CutsLine shares line waiting old after
cuts-aside shares line aside waiting old ran counts after failed is performs tells = rw is (inr (ran, counts, failed, performs, tells))

-- a slot's line says what the slot is, and its bytes
pub prints-slot : (slots : List SlotState) (s : ℕ) (state : SlotState) (is_text : Bool) (bytes : List ℕ) → s < length slots → state ≡ state_at slots s → is_text ≡ state.is_text → bytes ≡ state.handle.items
    → printed_slot is_text bytes ≡ printed_show slots s
prints-slot slots s state is_text bytes within is flag shown = rw (lt-ltb s (length slots) within) (ap₂ printed_slot (flag ∙ ap (λ (state : SlotState). state.is_text) is) (shown ∙ ap (λ (state : SlotState). state.handle.items) is))

pub prints-no-slot : (slots : List SlotState) (s : ℕ) → (s < length slots → false ≡ true) → codes "refused NoSlot\n" ≡ printed_show slots s
prints-no-slot slots s never = by-order (cases_lt s (length slots)) where
  by-order : (s < length slots) ⊎ (length slots ≤ s) → codes "refused NoSlot\n" ≡ printed_show slots s
  by-order (inl within) = let clash = never within in absurd (cc)
  by-order (inr beyond) = rw (le-ltb s (length slots) beyond) refl
