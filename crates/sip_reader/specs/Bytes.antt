-- Bytes of messages and tables by their names (ASCII).
use Rattle.std.specs.Prelude.{ℕ}

abbrev pub A : ℕ
A = 65

abbrev pub B : ℕ
B = 66

abbrev pub C : ℕ
C = 67

abbrev pub F : ℕ
F = 70

abbrev pub G : ℕ
G = 71

abbrev pub H : ℕ
H = 72

abbrev pub I : ℕ
I = 73

abbrev pub J : ℕ
J = 74

abbrev pub L : ℕ
L = 76

abbrev pub M : ℕ
M = 77

abbrev pub N : ℕ
N = 78

abbrev pub O : ℕ
O = 79

abbrev pub R : ℕ
R = 82

abbrev pub S : ℕ
S = 83

abbrev pub V : ℕ
V = 86

abbrev pub Y : ℕ
Y = 89

abbrev pub Z : ℕ
Z = 90

abbrev pub a : ℕ
a = 97

abbrev pub f : ℕ
f = 102

abbrev pub zero : ℕ
zero = 48

abbrev pub one : ℕ
one = 49

abbrev pub nine : ℕ
nine = 57

abbrev pub backslash : ℕ
backslash = 92

abbrev pub bar : ℕ
bar = 124

abbrev pub plus : ℕ
plus = 43

abbrev pub hyphen : ℕ
hyphen = 45

abbrev pub star : ℕ
star = 42

abbrev pub point : ℕ
point = 46

abbrev pub slash : ℕ
slash = 47

abbrev pub CR : ℕ
CR = 13

abbrev pub LF : ℕ
LF = 10

abbrev pub tab : ℕ
tab = 9
