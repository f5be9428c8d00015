-- The laws of cut files, from what is known of the section that is asked for.
use Rattle.std.proofs.Common.{ℕ, ◌+◌, ◌*◌, ◌-◌, ◌%◌, ◌^◌, ◌<◌, ◌≤◌, ◌≡◌, refl, sym, ap, subst, ◌∙◌, Bool, true, false, List, length, take, drop, length-drop}
use Rattle.std.proofs.Common.{Result, Ok, Err, ltb, leb, eqb, arith}
use Rattle.std.proofs.Math.Nat.{pow-le-pow_right}
use borrow.Author.Tests.{ltb-true, ltb-false, leb-true, eqb-true}
use lib.Seq.{take-add, drop-drop, drop_at, length-take-le}
use Rattle.refusals.specs.Most.{most_samples}
use Rattle.refusals.specs.Refusals.{unless}
use Rattle.refusals.proofs.Chains.{or_none, unless_none}
use Rattle.groups.specs.Groups.{read_at}
use Rattle.groups.specs.declared.Number.{Number}
use Rattle.groups.specs.declared.Fault.{Fault}
use Rattle.groups.specs.declared.Fault.TheVariants.{Cut, Faulty}
use Rattle.groups.proofs.Numbers.{grouped, grouped_least}
use Rattle.payloads.specs.Payload.{form_of, count_number, payload_number}
use Rattle.payloads.proofs.Forms.{each_form}
use Rattle.payloads.specs.declared.form.Form.{Form}
use Rattle.payloads.specs.declared.form.Form.TheVariants.{Listed, Grid}
use Rattle.cut_files.specs.File.{section_of}
use Rattle.cut_files.specs.Part.{part, doubles_in}
use Rattle.sections.specs.declared.Section.{Section}
use Rattle.sections.specs.Section.{placed}
use Rattle.cut_files.proofs.Handed.{Handed, section_handed}
use Rattle.file_laws.specs.FileLaws.{InTheFile, HasANumber, AllCounted, CountedDoubles}

found : (l : List ℕ) (asked : ℕ) (s : Result Section ℕ) → section_of l asked ≡ s → Handed l asked s
found l asked s e = subst (Handed l asked) e (section_handed l asked)

pub in_the_file : InTheFile
in_the_file l asked kind start end e =
    let a = found l asked (Ok (placed kind start end)) e in
    (a.kind_is, a.lies.ordered, a.lies.held)

pub has_a_number : HasANumber
has_a_number l asked n e = found l asked _ e

-- ---- no limit is so high that a count takes more than three groups
abbrev Small : Result Form ℕ → Type 0
Small (Ok (Listed limit)) = limit ≤ most_samples
Small (Ok Grid) = Unit {0}
Small (Err n) = Unit {0}

small : (kind : ℕ) → Small (form_of kind)
small = each_form Small (omega arith) tt (omega arith) tt

few_groups : (k count : ℕ) → (0 < k → 128 ^ k ≤ count) → count ≤ most_samples → k ≤ 2
few_groups k count h c = go (ltb 2 k) refl
  where
    go : (t : Bool) → ltb 2 k ≡ t → k ≤ 2
    go true q =
        let g = ltb-true 2 k q in
        absurd (omega (arith, h (omega arith), c, pow-le-pow_right {n = 128} (omega arith) {i = 3} {j = k} (omega arith)))
    go false q = ltb-false 2 k q

-- ---- a part behind the first k bytes of another
behind : (l : List ℕ) (start k m : ℕ) → start + (k + m) ≤ length l → drop k (take (k + m) (drop start l)) ≡ take m (drop (start + k) l)
behind l start k m h =
    let x = drop start l in
    let z : length (take k x) ≡ k = length-take-le k x (omega (arith, length-drop start l)) in
    ap (drop k) (take-add k m x) ∙ drop_at (take k x) (take m (drop k x)) k z ∙ ap (take m) (drop-drop k start l)

module _ (l : List ℕ) (start end limit : ℕ) (ordered : start ≤ end) (held : end ≤ length l) (most : limit ≤ most_samples) where
  counted : (n : Result Number Fault) → read_at l start end ≡ n → count_number limit end n ≡ 0 → AllCounted l start end (doubles_in (take (end - start) (drop start l)))
  unfolding count_number
  counted (Ok n) e h =
      let count = n.value in
      let next = n.next in
      let g = grouped l start end count next e in
      let o = or_none (unless (leb count limit) 45) (unless (eqb (end - next) (8 * count)) 45) h in
      let c = leb-true count limit (unless_none (leb count limit) 45 (λ z. omega arith) o.0) in
      let d = eqb-true (end - next) (8 * count) (unless_none (eqb (end - next) (8 * count)) 45 (λ z. omega arith) o.1) in
      let k = few_groups g.k count (grouped_least l start end count next g) (omega arith) in
      let a = g.after in
      let b = g.held in
      let s : end - start ≡ g.k + 1 + 8 * count = omega arith in
      let p : start + (g.k + 1) ≡ next = omega arith in
      let r : length (take (end - start) (drop start l)) % 8 ≡ g.k + 1 = omega (arith, length-take-le (end - start) (drop start l) (omega (arith, length-drop start l))) in
      record {
        count = count;
        next = next;
        read = e;
        all = omega arith;
        those = ap (λ (i : ℕ). drop i (take (end - start) (drop start l))) r
            ∙ ap (λ (i : ℕ). drop (g.k + 1) (take i (drop start l))) s
            ∙ behind l start (g.k + 1) (8 * count) (omega arith)
            ∙ ap (λ (i : ℕ). take (8 * count) (drop i l)) p;
      }
  counted (Err Cut) e h = absurd (omega (arith, h))
  counted (Err Faulty) e h = absurd (omega (arith, h))

pub counted_doubles : CountedDoubles
unfolding payload_number
counted_doubles l asked kind start end limit e f =
    let a = found l asked (Ok (placed kind start end)) e in
    let form = ap form_of a.kind_is ∙ f in
    let most = subst Small f (small asked) in
    let sound : count_number limit end (read_at l start end) ≡ 0 = sym (ap (λ (x : Result Form ℕ). payload_number l x start end) form) ∙ a.lies.sound in
    subst (λ (s : Result Section ℕ). AllCounted l start end (doubles_in (part l s))) (sym e)
    (counted l start end limit a.lies.ordered a.lies.held most (read_at l start end) refl sound)
