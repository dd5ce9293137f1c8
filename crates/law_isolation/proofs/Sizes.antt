-- Frames, messages and registers keep their sizes.
use Rattle.std.proofs.Common.{◌≡◌, ℕ, zero, suc, ◌+◌, ◌/◌, ◌%◌, ◌≤◌, List, [], ◌∷◌, ◌++◌, length, ◌∙◌, subst, refl, arith}
use Rattle.std.specs.Prelude.{Bool, true, false, ◌==◌, ◌&&◌, nat_lt, slice_get, slice_set, Option, Some, None, IfSome, if◌then◌else◌}
use Rattle.std.specs.List.{AllByRecursion}
use Rattle.std.proofs.lemmas.List.{length-replicate, length-set, places}
use Rattle.std.proofs.lemmas.Option.{same_Some}
use Rattle.byteorder.specs.Endian.{little_bytes}
use Rattle.byteorder.specs.Numbers.{length-bytes_low_first}
use Rattle.rv_model.specs.Registers.{Registers, with_reg}
use Rattle.rv_model.specs.Step.{Once, Raised, Went, Store}
use Rattle.nova_guest.specs.Frames.{replaced}
use Rattle.nova_range.specs.declared.mtd.Mtd.{Mtd}
use Rattle.nova_range.specs.declared.status.Status.{Status}
use Rattle.nova_range.specs.declared.status.Status.TheVariants.{Success}
use Rattle.nova_utcb.specs.Messages.{copied, exited, with_item, written_back}
use Rattle.nova_utcb.proofs.Ruled.{length_ruled}
use Rattle.nova_model.specs.AddressSpaces.{own_page, message_size, words_at}
use Rattle.nova_model.specs.Inputs.{store_of}
use Rattle.nova_model.specs.Deeds.{address_space, answered, instruction, resumed, with_value}
use Rattle.nova_model.specs.Memory.{Memory, written, written_in}
use Rattle.nova_model.specs.State.{KernelState, Contexts, context, ec_of, entry, is_thread, message, message_in, no_words, own_words, with_ec}
use Rattle.nova_model.specs.declared.context.EcState.{EcState}
use Rattle.nova_model.specs.declared.context.Mark.{Mark}
use Rattle.nova_model.specs.declared.context.Mark.TheVariants as mark
use Rattle.nova_model.specs.declared.deed.Deed.{Deed}
use Rattle.nova_model.specs.declared.deed.Deed.TheVariants.{Rests, Steps, Sends, Recalls, Gives, Skips, Finishes, Calls, Replies, Aborts, Removes, Ups}
use Rattle.nova_model.specs.declared.transfer.ItemWords.{ItemWords}
use Rattle.nova_model.specs.declared.transfer.Sequel.{Sequel}
use Rattle.nova_model.specs.declared.transfer.Sequel.TheVariants as sequel
use Rattle.law_forest.specs.Effects.{Answers, Edit, Edits, Moves, Resumes, Serves, all_edited, edit_at, edited, edits_by, follows_by, item_words, put, recalls_by, steps_by, store_words, wakes_by, words_by, words_stored, ends_by}
use Rattle.law_isolation.proofs.Instructions.{IsGood, length_reg}

-- frames stay whole
whole_set : (n i : ℕ) (ram : List (List ℕ)) (b : List ℕ) → length b ≡ n → AllByRecursion (λ (p : List ℕ). length p ≡ n) ram → AllByRecursion (λ (p : List ℕ). length p ≡ n) (slice_set ram i b)
whole_set n i [] b h all = tt
whole_set n zero (p ∷ ram) b h all = (h, all.1)
whole_set n (suc i) (p ∷ ram) b h all = (all.0, whole_set n i ram b h all.1)

got_whole : (n : ℕ) (ram : List (List ℕ)) (i : ℕ) (b : List ℕ) → slice_get ram i ≡ Some b → AllByRecursion (λ (p : List ℕ). length p ≡ n) ram → length b ≡ n
got_whole n [] i b h all = absurd (cc)
got_whole n (p ∷ ram) zero b h all = subst (λ (q : List ℕ). length q ≡ n) (same_Some p b h) all.0
got_whole n (p ∷ ram) (suc i) b h all = got_whole n ram i b h all.1

length_replaced : (bytes new : List ℕ) (offset : ℕ) → offset + length new ≤ length bytes → length (replaced bytes offset new) ≡ length bytes
length_replaced bytes new offset h = grind (arith, places)

whole_in : (n : ℕ) (m : Memory) (f o w v : ℕ) (b : Option (List ℕ)) → o + w ≤ n → slice_get m.ram f ≡ b → AllByRecursion (λ (p : List ℕ). length p ≡ n) m.ram →
    AllByRecursion (λ (p : List ℕ). length p ≡ n) (written_in m b f o w v).ram
whole_in n m f o w v None fits h all = all
whole_in n m f o w v (Some b) fits h all =
    let size : length b ≡ n = got_whole n m.ram f b h all in
    whole_set n f m.ram (replaced b o (little_bytes w v))
    (length_replaced b (little_bytes w v) o (let count = length-bytes_low_first 0 w v in omega arith) ∙ size) all

-- a store that fits keeps frames whole
pub whole_written : (n : ℕ) (m : Memory) (f o w v : ℕ) → o + w ≤ n → AllByRecursion (λ (p : List ℕ). length p ≡ n) m.ram → AllByRecursion (λ (p : List ℕ). length p ≡ n) (written m f o w v).ram
whole_written n m f o w v fits all = whole_in n m f o w v (slice_get m.ram f) fits refl all

-- TABLES

set_each : {T : Type 0} (P : Option T → Type 0) (xs : List T) (e : ℕ) (x : T) → P (Some x) → ((i : ℕ) → P (slice_get xs i)) → (i : ℕ) → P (slice_get (slice_set xs e x) i)
set_each P [] e x p h i = h i
set_each P (y ∷ ys) zero x p h zero = p
set_each P (y ∷ ys) zero x p h (suc i) = h (suc i)
set_each P (y ∷ ys) (suc e) x p h zero = h zero
set_each P (y ∷ ys) (suc e) x p h (suc i) = set_each P ys e x p (λ j. h (suc j)) i

pub more_each : {T : Type 0} (P : Option T → Type 0) (xs : List T) (x : T) → P (Some x) → P None → ((i : ℕ) → P (slice_get xs i)) → (i : ℕ) → P (slice_get (xs ++ x ∷ []) i)
more_each P [] x p none h zero = p
more_each P [] x p none h (suc i) = none
more_each P (y ∷ ys) x p none h zero = h zero
more_each P (y ∷ ys) x p none h (suc i) = more_each P ys x p none (λ j. h (suc j)) i

-- MESSAGES

abbrev pub IsSized : Option (Option (List ℕ)) → Type 0
IsSized o = length (message_in (entry o)) ≡ 128

abbrev pub AreSized : List (Option (List ℕ)) → Type 0
AreSized messages = (i : ℕ) → IsSized (slice_get messages i)

pub no_words_sized : length no_words ≡ 128
no_words_sized = length-replicate {A = ℕ} 128 0

message_set : (messages : List (Option (List ℕ))) (e : ℕ) (m : List ℕ) → length m ≡ 128 → AreSized messages → AreSized (slice_set messages e (Some m))
message_set messages e m size all = set_each IsSized messages e (Some m) size all

length_copied : (from to : List ℕ) → length (copied from to) ≡ length to
unfolding copied
length_copied from to = length_ruled _ to

length_exited : (mtd : Mtd) (q0 q1 : ℕ) (r : Registers) (m : List ℕ) → length (exited mtd q0 q1 r m) ≡ length m
unfolding exited
length_exited mtd q0 q1 r m = length_ruled _ m

length_item : (m : List ℕ) (i first second : ℕ) → length (with_item m i first second) ≡ length m
length_item m i first second = length-set (slice_set m _ first) _ second ∙ length-set m _ first

own_sized : (m : List ℕ) (t : Bool) (words : Option (List ℕ)) → ((n : List ℕ) → words ≡ Some n → length n ≡ 128) → (if t then words else None) ≡ Some m → length m ≡ 128
own_sized m true words own e = own m e
own_sized m false words own e = absurd (cc)

thread_sized : (k : KernelState) (ec : ℕ) (t : Bool) → AreSized k.messages → (m : List ℕ) → ◌≡◌ {A = Option (List ℕ)} (if t then Some (message k ec) else None) (Some m) → length m ≡ 128
thread_sized k ec true all m e = subst (λ (n : List ℕ). length n ≡ 128) (same_Some (message k ec) m e) (all ec)
thread_sized k ec false all m e = absurd (cc)

-- what an effect writes has as many
abbrev pub IsOfSize : Option (ℕ × List ℕ) → Type 0
IsOfSize o = IfSome o (λ w. length w.1 ≡ 128)

stored_sized : (k : KernelState) (ec : ℕ) (s : Option Store) → AreSized k.messages → IsOfSize (store_words (address_space k ec) ec s)
stored_sized k ec None all = tt
stored_sized k ec (Some s) all =
    by_words (words_at (address_space k ec) s.address)
    (λ m e. own_sized m ((s.address / 4096 == own_page) && nat_lt (s.address % 4096) message_size) (own_words k ec) (thread_sized k ec (is_thread k ec) all) e)
  where
    by_words : (o : Option (List ℕ)) → ((m : List ℕ) → o ≡ Some m → length m ≡ 128) → IsOfSize (words_stored ec s o)
    by_words None own = tt
    by_words (Some m) own = length-set m _ _ ∙ own m refl

item_sized : (k : KernelState) (item : ℕ) (words : Option ItemWords) → AreSized k.messages → IsOfSize (item_words k item words)
item_sized k item None all = tt
item_sized k item (Some w) all = length_item (message k w.ec) item w.first w.second ∙ all w.ec

pub words_sized : (k : KernelState) (ec : ℕ) (d : Deed) → AreSized k.messages → IsOfSize (words_by k ec d)
words_sized k ec Steps all = stored_sized k ec (store_of (instruction k ec)) all
words_sized k ec (Calls handler ip identifier items) all = length_copied (message k ec) (message k handler) ∙ all handler
words_sized k ec (Sends handler ip identifier mtd reason q0 q1) all = length_exited mtd q0 q1 (context k ec).regs (message k handler) ∙ all handler
words_sized k ec (Replies caller mark.Call items) all = length_copied (message k ec) (message k caller) ∙ all caller
words_sized k ec (Finishes item end words after) all = item_sized k item words all
words_sized k ec other all = tt

pub put_sized : (messages : List (Option (List ℕ))) (o : Option (ℕ × List ℕ)) → IsOfSize o → AreSized messages → AreSized (put messages o)
put_sized messages None size all = all
put_sized messages (Some (e, m)) size all = message_set messages e m size all

-- REGISTERS

ec_set : (cs : Contexts) (e : ℕ) (y : EcState) (g : ℕ) → length y.regs.x ≡ length (ec_of cs e).regs.x → length (ec_of (with_ec cs e y) g).regs.x ≡ length (ec_of cs g).regs.x
ec_set [] e y g h = refl
ec_set (c ∷ cs) zero y zero h = h
ec_set (c ∷ cs) zero y (suc g) h = refl
ec_set (c ∷ cs) (suc e) y zero h = refl
ec_set (c ∷ cs) (suc e) y (suc g) h = ec_set cs e y g h

-- answers, replies and calls
length_value : (r : Registers) (value : Option ℕ) → length (with_value r value).x ≡ length r.x
length_value r None = refl
length_value r (Some value) = length_reg r 11 value

length_answered : (x : EcState) (status : Status) (value : Option ℕ) → length (answered x status value).regs.x ≡ length x.regs.x
length_answered x status value = length_value (with_reg x.regs 10 _) value ∙ length_reg x.regs 10 _

length_back : (m : List ℕ) (r : Registers) → length (written_back m r).x ≡ length r.x
unfolding written_back
length_back m r = length_ruled _ r.x

length_resumed : (x : EcState) (came : Mark) (m : List ℕ) → length (resumed x came m).regs.x ≡ length x.regs.x
length_resumed x mark.Call m = length_answered x Success None
length_resumed x mark.Exit m = length_back m x.regs

-- an edit that sets registers sets as many
abbrev FitsEdit : EcState → Edit → Type 0
FitsEdit x (Moves regs) = length regs.x ≡ length x.regs.x
FitsEdit x other = Unit {0}

length_edited : (x : EcState) (e : Edit) → FitsEdit x e → length (edited x e).regs.x ≡ length x.regs.x
length_edited x (Answers status value) fits = length_answered x status value
length_edited x (Serves caller came ip identifier items) fits = length_reg x.regs 10 identifier
length_edited x (Resumes came m) fits = length_resumed x came m
length_edited x (Moves regs) fits = fits
length_edited x other fits = refl

abbrev pub AreFit : Contexts → Edits → Type 0
AreFit cs [] = Unit {0}
AreFit cs ((n, e) ∷ es) = FitsEdit (ec_of cs n) e × AreFit (edit_at cs n e) es

pub length_all : (cs : Contexts) (es : Edits) (g : ℕ) → AreFit cs es → length (ec_of (all_edited cs es) g).regs.x ≡ length (ec_of cs g).regs.x
length_all cs [] g fits = refl
length_all cs ((n, e) ∷ es) g fits =
    length_all (edit_at cs n e) es g fits.1 ∙ ec_set cs n (edited (ec_of cs n) e) g (length_edited (ec_of cs n) e fits.0)

steps_fit : (k : KernelState) (ec : ℕ) (o : Once) → IsGood (length (context k ec).regs.x) o → AreFit k.contexts (steps_by ec o)
steps_fit k ec (Raised reason q0 q1) good = tt
steps_fit k ec (Went regs store) good = (good.0, tt)

recalls_fit : (cs : Contexts) (whose : ℕ) (o : Option EcState) → AreFit cs (recalls_by whose o)
recalls_fit cs whose None = tt
recalls_fit cs whose (Some x) = (tt, tt)

wakes_fit : (cs : Contexts) (whom : Option ℕ) → AreFit cs (wakes_by whom)
wakes_fit cs None = tt
wakes_fit cs (Some w) = (tt, tt)

pub ends_fit : (cs : Contexts) (o : Option (ℕ × Status)) → AreFit cs (ends_by o)
ends_fit cs None = tt
ends_fit cs (Some (w, status)) = (tt, tt)

follows_fit : (cs : Contexts) (ec : ℕ) (m : List ℕ) (after : Sequel) → AreFit cs (follows_by ec m after)
follows_fit cs ec m (sequel.Replied caller came) = (tt, (tt, tt))
follows_fit cs ec m other = (tt, tt)

-- only an instruction sets them
pub edits_fit : (k : KernelState) (ec : ℕ) (d : Deed) → IsGood (length (context k ec).regs.x) (instruction k ec) → AreFit k.contexts (edits_by k ec d)
edits_fit k ec Steps good = steps_fit k ec (instruction k ec) good
edits_fit k ec Rests good = tt
edits_fit k ec (Gives child cursor) good = tt
edits_fit k ec (Skips reason place cursor) good = tt
edits_fit k ec (Removes leaf) good = tt
edits_fit k ec (Recalls whose) good = (tt, recalls_fit _ whose _)
edits_fit k ec (Sends handler ip identifier mtd reason q0 q1) good = (tt, (tt, tt))
edits_fit k ec (Calls handler ip identifier items) good = (tt, (tt, tt))
edits_fit k ec (Finishes item end words after) good = follows_fit k.contexts ec _ after
edits_fit k ec (Replies caller came true) good = (tt, tt)
edits_fit k ec (Replies caller came false) good = (tt, (tt, tt))
edits_fit k ec (Aborts handler mark.Call) good = (tt, tt)
edits_fit k ec (Ups sm whom) good = (tt, wakes_fit _ whom)
edits_fit k ec other good = (tt, tt)
