mod LoadingLemmas
