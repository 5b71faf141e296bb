-- The headers of the prelude: what a verified program may take from outside.
use Rattle.std.specs.Prelude.{ℕ, List, [], ◌∷◌, ◌++◌, codes, Option, Some, None, if◌then◌else◌}
use Rattle.std.specs.List.{flat_map}
use Rattle.std.specs.Str.{bytes_eq}

-- a text of these lines, each ended by a line feed
abbrev pub text_of_lines : List (List ℕ) → List ℕ
text_of_lines lines = flat_map (λ line. line ++ codes "\n") lines

-- stddef.h: the null pointer (C11 7.19)
unfoldable pub stddef : List ℕ
stddef = text_of_lines (
    codes "#define NULL 0" ∷
    [])

-- stdbool.h: nothing, since its words are keywords here (C11 7.18)
unfoldable pub stdbool : List ℕ
stdbool = text_of_lines []

-- stdlib.h: the null pointer and `abort` (C11 7.22)
unfoldable pub stdlib : List ℕ
stdlib = text_of_lines (
    codes "#define NULL 0" ∷
    codes "void abort(); //@ requires true; ensures false;" ∷
    [])

-- stdio.h: `putchar` (C11 7.21.7.8)
unfoldable pub stdio : List ℕ
stdio = text_of_lines (
    codes "int putchar(int c); //@ requires 0 <= c &*& c <= 255; ensures true;" ∷
    [])

-- vf_output.h: the output of a number
unfoldable pub vf_output : List ℕ
vf_output = text_of_lines (
    codes "void print_int(int x); //@ requires true; ensures true;" ∷
    [])

-- threading.h: threads and mutexes, as in the threading library of VeriFast
unfoldable pub threading : List ℕ
threading = text_of_lines (
    codes "struct mutex; struct thread;" ∷
    codes "/*@ predicate_family thread_run_data(void *run)(void *d);" ∷
    codes "predicate_family thread_run_pre(void *run)(void *d, any info);" ∷
    codes "predicate_family thread_run_post(void *run)(void *d, any info);" ∷
    codes "predicate thread(struct thread *t, void *run, void *d, any info);" ∷
    codes "predicate mutex(struct mutex *m, predicate() p);" ∷
    codes "predicate mutex_held(struct mutex *m, predicate() p, int id, real f);" ∷
    codes "predicate create_mutex_ghost_arg(predicate() p) = true; @*/" ∷
    codes "typedef void thread_run(void *d); //@ requires thread_run_data(this)(d); ensures true;" ∷
    codes "typedef void thread_run_joinable(void *d);" ∷
    codes "//@ requires thread_run_pre(this)(d, ?info); ensures thread_run_post(this)(d, info);" ∷
    codes "void thread_start(void *run, void *d);" ∷
    codes "//@ requires is_thread_run(run) == true &*& thread_run_data(run)(d); ensures true;" ∷
    codes "struct thread *thread_start_joinable(void *run, void *d);" ∷
    codes "//@ requires is_thread_run_joinable(run) == true &*& thread_run_pre(run)(d, ?info);" ∷
    codes "//@ ensures thread(result, run, d, info);" ∷
    codes "void thread_join(struct thread *t);" ∷
    codes "//@ requires thread(t, ?run, ?d, ?info); ensures thread_run_post(run)(d, info);" ∷
    codes "struct mutex *create_mutex();" ∷
    codes "//@ requires create_mutex_ghost_arg(?p) &*& p(); ensures mutex(result, p);" ∷
    codes "void mutex_acquire(struct mutex *m);" ∷
    codes "//@ requires [?f]mutex(m, ?p); ensures mutex_held(m, p, currentThread, f) &*& p();" ∷
    codes "void mutex_release(struct mutex *m);" ∷
    codes "//@ requires mutex_held(m, ?p, currentThread, ?f) &*& p(); ensures [f]mutex(m, p);" ∷
    codes "void mutex_dispose(struct mutex *m);" ∷
    codes "//@ requires mutex(m, ?p); ensures p();" ∷
    [])

-- vf_arrays.h: arrays of `int`, with the list of what they hold
unfoldable pub vf_arrays : List ℕ
vf_arrays = text_of_lines (
    codes "/*@ inductive ints_list = ints_nil | ints_cons(int, ints_list);" ∷
    codes "fixpoint int ints_nth(ints_list xs, int i) { switch (xs) { case ints_nil: return 0;" ∷
    codes "  case ints_cons(h, t): return (i == 0 ? h : ints_nth(t, i - 1)); } }" ∷
    codes "fixpoint ints_list ints_set(ints_list xs, int i, int v) { switch (xs) {" ∷
    codes "  case ints_nil: return ints_nil;" ∷
    codes "  case ints_cons(h, t): return (i == 0 ? ints_cons(v, t) : ints_cons(h, ints_set(t, i - 1, v))); } }" ∷
    codes "fixpoint ints_list ints_take(ints_list xs, int k) { switch (xs) { case ints_nil: return ints_nil;" ∷
    codes "  case ints_cons(h, t): return (k <= 0 ? ints_nil : ints_cons(h, ints_take(t, k - 1))); } }" ∷
    codes "fixpoint ints_list ints_drop(ints_list xs, int k) { switch (xs) { case ints_nil: return ints_nil;" ∷
    codes "  case ints_cons(h, t): return (k <= 0 ? ints_cons(h, t) : ints_drop(t, k - 1)); } }" ∷
    codes "fixpoint ints_list ints_append(ints_list xs, ints_list ys) { switch (xs) {" ∷
    codes "  case ints_nil: return ys; case ints_cons(h, t): return ints_cons(h, ints_append(t, ys)); } }" ∷
    codes "predicate ints(int *p, int n, ints_list vs);" ∷
    codes "predicate malloc_block_ints(int *p, int n);" ∷
    codes "lemma void ints_none(int *p); requires true; ensures ints(p, 0, ints_nil);" ∷
    codes "lemma void ints_split(int *p, int k); requires [?f]ints(p, ?n, ?vs) &*& 0 <= k &*& k <= n;" ∷
    codes "  ensures [f]ints(p, k, ints_take(vs, k)) &*& [f]ints(p + k, n - k, ints_drop(vs, k));" ∷
    codes "lemma void ints_split_raw(int *p, int k); requires [?f]ints(p, ?n, _) &*& 0 <= k &*& k <= n;" ∷
    codes "  ensures [f]ints(p, k, _) &*& [f]ints(p + k, n - k, _);" ∷
    codes "lemma void ints_join(int *p, int k); requires [?f]ints(p, k, ?a) &*& [f]ints(p + k, ?m, ?b);" ∷
    codes "  ensures [f]ints(p, k + m, ints_append(a, b));" ∷
    codes "lemma void ints_join_raw(int *p, int k); requires [?f]ints(p, k, _) &*& [f]ints(p + k, ?m, _);" ∷
    codes "  ensures [f]ints(p, k + m, _); @*/" ∷
    [])

-- the text of the header with a name, for the names that there are
abbrev pub text_of : List ℕ → Option (List ℕ)
text_of name =
    if bytes_eq name (codes "stddef.h") then Some stddef else
    if bytes_eq name (codes "stdbool.h") then Some stdbool else
    if bytes_eq name (codes "stdlib.h") then Some stdlib else
    if bytes_eq name (codes "stdio.h") then Some stdio else
    if bytes_eq name (codes "vf_output.h") then Some vf_output else
    if bytes_eq name (codes "threading.h") then Some threading else
    if bytes_eq name (codes "vf_arrays.h") then Some vf_arrays else
    None
